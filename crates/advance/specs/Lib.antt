pub mod Numbered
pub mod Advanced
pub mod Round
