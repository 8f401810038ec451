pub mod Steps
pub mod Tables
pub mod PendingRows
pub mod Walks
pub mod Descents
pub mod Course
pub mod Underway
