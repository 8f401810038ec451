pub mod Number
pub mod Value
pub mod Compute
pub mod Nearest
pub mod Laws
