pub mod Names
pub mod Document
pub mod Bytes
pub mod References
