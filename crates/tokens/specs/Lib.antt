pub mod Proper
pub mod Lengths
pub mod Names
