pub mod Pieces
pub mod Law
