pub mod Sets
pub mod Listing
