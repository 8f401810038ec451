pub mod Counts
pub mod Steps
pub mod Visits
pub mod Whole
pub mod Items
pub mod Model
pub mod Scan
