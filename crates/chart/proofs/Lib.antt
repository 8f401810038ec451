pub mod Cells
pub mod Fills
pub mod Says
pub mod Users
