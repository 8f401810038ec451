pub mod Spans
pub mod Table
