pub mod Once
pub mod Fair
pub mod Rows
pub mod Tags
pub mod Nested
pub mod Law
