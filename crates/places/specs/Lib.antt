pub mod Spots
pub mod Place
pub mod Scan
pub mod Tokens
pub mod Laws
