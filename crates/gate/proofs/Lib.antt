pub mod Constants
pub mod Rulings
pub mod Answers
pub mod Attributes
pub mod Laws
