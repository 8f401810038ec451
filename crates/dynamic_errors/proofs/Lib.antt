pub mod Folds
pub mod Roots
