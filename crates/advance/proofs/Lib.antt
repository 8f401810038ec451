pub mod Layered
pub mod Finishing
pub mod Rounded
pub mod Turns
pub mod Readies
