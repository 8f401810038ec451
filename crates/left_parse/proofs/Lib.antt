pub mod Widths
pub mod Items
pub mod Scratch
pub mod Walks
pub mod Notes
pub mod After
pub mod Marks
