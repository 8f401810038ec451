pub mod Names
pub mod Stand
