pub mod Cells
pub mod Values
pub mod Lowering
pub mod Small
pub mod Exact
pub mod Part
pub mod PartSays
pub mod Same
