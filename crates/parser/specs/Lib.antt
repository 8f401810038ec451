pub mod Choose
pub mod Chosen
