pub mod Noted
pub mod Walk
pub mod Steps
