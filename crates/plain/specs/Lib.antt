pub mod Written
pub mod Static
pub mod Plain
pub mod Live
