pub mod Sizes
pub mod Folds
