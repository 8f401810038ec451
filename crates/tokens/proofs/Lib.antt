pub mod Told
pub mod Forms
pub mod Walk
pub mod Names
