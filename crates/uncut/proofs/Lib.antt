pub mod ReadsAs
pub mod ConvertsAs
