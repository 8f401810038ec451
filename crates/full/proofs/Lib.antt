pub mod Marks
pub mod Whole
