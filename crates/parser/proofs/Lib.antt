pub mod Located
pub mod Early
