pub mod Closed
pub mod Counts
pub mod Queue
pub mod Keys
pub mod Stays
pub mod Widths
