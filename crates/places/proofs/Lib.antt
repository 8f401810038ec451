pub mod Quiet
pub mod Runs
pub mod Parts
pub mod Unique
pub mod Exists
pub mod Fronted
pub mod Laws
