pub mod Viable
pub mod State
