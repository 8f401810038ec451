pub mod Cells
pub mod Reach
pub mod Laws
pub mod Terminals
pub mod Rounds
