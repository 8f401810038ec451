pub mod Laws
pub mod Weights
pub mod Steps
pub mod Nodes
pub mod Turns
pub mod Folds
