pub mod Tests
pub mod Ascii
pub mod Places
pub mod Spacing
pub mod Table
pub mod Parts
