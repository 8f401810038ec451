pub mod Held
pub mod Carrying
pub mod Using
pub mod Waking
