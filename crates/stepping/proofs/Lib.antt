pub mod Starts
pub mod Calls
