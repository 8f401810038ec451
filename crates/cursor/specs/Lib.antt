pub mod Rest
pub mod Ahead
pub mod Events
