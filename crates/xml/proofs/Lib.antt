pub mod References
pub mod Escapes
pub mod Rows
