pub mod Audit
pub mod WellFormed
