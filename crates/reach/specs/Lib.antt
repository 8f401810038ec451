pub mod Flags
pub mod Work
pub mod Lists
