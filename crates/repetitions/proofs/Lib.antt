pub mod Stores
pub mod Operators
