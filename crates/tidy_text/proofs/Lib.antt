pub mod Between
pub mod Owed
pub mod Fits
pub mod Concluded
pub mod Encoded
