pub mod Limits
pub mod Lists
pub mod Utf8
pub mod Ranks
pub mod Decode
pub mod Stages
pub mod Faults
