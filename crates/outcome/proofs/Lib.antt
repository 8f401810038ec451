pub mod Outcomes
pub mod Documents
pub mod Lists
