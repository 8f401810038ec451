pub mod Storing
pub mod Visits
pub mod Passes
pub mod Ending
pub mod Offers
pub mod Rounds
