pub mod Agree
pub mod Classes
pub mod Known
pub mod Marks
