pub mod Listing
pub mod Starts
