pub mod Spots
pub mod Faults
pub mod Asked
