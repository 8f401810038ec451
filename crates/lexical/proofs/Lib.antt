pub mod Copies
pub mod Words
pub mod Uses
