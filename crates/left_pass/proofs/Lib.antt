pub mod Steps
pub mod Drains
pub mod Shifts
pub mod Places
