pub mod Offers
pub mod Derived
pub mod Moves
pub mod Noted
