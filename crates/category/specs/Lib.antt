pub mod Category
pub mod Marks
