pub mod Resume
pub mod Stages
pub mod Traces
