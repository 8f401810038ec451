pub mod Handing
pub mod Listed
pub mod Merging
