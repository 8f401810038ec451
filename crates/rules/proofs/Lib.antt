pub mod Arrays
pub mod Counts
pub mod Dots
pub mod Numbers
pub mod Whole
pub mod Sounds
