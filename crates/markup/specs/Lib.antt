pub mod Pieces
pub mod Tags
