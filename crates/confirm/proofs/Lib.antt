pub mod Reaches
pub mod Standing
pub mod Found
