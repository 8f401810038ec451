pub mod Sound
pub mod Places
pub mod Marks
