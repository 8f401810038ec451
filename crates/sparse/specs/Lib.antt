pub mod Cells
pub mod Steps
pub mod Column
