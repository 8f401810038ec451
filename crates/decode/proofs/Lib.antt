pub mod Answers
pub mod Bytes
pub mod Cuts
pub mod Scans
pub mod Whole
pub mod Refusals
