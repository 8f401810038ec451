pub mod Laws
pub mod Names
pub mod Trees
pub mod Folds
