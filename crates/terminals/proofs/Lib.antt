pub mod Stretches
pub mod Widths
pub mod MemberPlaces
pub mod Places
pub mod Marking
pub mod LiveTerminals
