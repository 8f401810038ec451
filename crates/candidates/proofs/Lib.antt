pub mod Few
pub mod Lines
pub mod AlongRules
pub mod Searches
pub mod Passing
