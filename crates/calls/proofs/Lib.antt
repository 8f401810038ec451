pub mod Checks
pub mod Agree
pub mod TidiesAs
pub mod JudgesAs
mod Ended
