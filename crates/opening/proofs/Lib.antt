pub mod Texts
pub mod Starts
