pub mod Syntax
pub mod Result
pub mod Spacing
pub mod Lexical
pub mod Parser
