pub mod Keys
pub mod Alike
pub mod Ranges
pub mod Places
pub mod Model
pub mod Found
