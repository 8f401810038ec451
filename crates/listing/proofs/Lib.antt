pub mod Dots
pub mod Sorting
pub mod Untouched
