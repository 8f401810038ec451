pub mod Sequence
pub mod Scan
pub mod Whole
pub mod Refused
