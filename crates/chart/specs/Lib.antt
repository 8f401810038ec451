pub mod Code
pub mod Heights
pub mod Uses
