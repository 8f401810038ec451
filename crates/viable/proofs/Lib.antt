pub mod Parts
pub mod Sound
pub mod Reaching
pub mod Fault
