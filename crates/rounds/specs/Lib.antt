pub mod Rounds
pub mod After
