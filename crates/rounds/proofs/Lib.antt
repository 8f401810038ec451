pub mod Bound
pub mod Says
