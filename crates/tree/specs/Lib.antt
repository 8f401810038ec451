pub mod Tree
pub mod Tokens
