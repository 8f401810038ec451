pub mod Sums
pub mod Spots
pub mod Examples
