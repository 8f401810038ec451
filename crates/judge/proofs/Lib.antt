pub mod Due
pub mod Tracks
pub mod Moves
pub mod Ends
pub mod Turns
