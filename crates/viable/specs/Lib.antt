pub mod Fault
pub mod Stands
pub mod Compute
