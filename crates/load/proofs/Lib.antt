pub mod Proper
pub mod Written
pub mod Stages
pub mod Loads
pub mod Bytes
