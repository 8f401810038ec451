pub mod Leading
pub mod Constants
pub mod Steps
pub mod Reading
pub mod Closest
pub mod Whole
pub mod Correct
pub mod Laws
