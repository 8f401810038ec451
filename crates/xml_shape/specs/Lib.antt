pub mod Judges
pub mod Names
pub mod One
