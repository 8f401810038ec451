pub mod Passing
pub mod Columns
pub mod Started
