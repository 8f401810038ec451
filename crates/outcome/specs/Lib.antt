pub mod Outcome
pub mod Given
pub mod Judging
pub mod Calls
