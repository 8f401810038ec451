pub mod Located
pub mod Off
