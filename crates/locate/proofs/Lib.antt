pub mod Modes
pub mod Walk
pub mod Fits
pub mod Rules
pub mod AtToken
pub mod Search
pub mod Found
