pub mod Found
pub mod Parses
