pub mod Readings
pub mod Parsed
