pub mod Given
pub mod Back
pub mod Drains
pub mod Rightward
