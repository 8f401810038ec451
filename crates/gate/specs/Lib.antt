pub mod Gate
pub mod Compute
pub mod Calls
pub mod Laws
