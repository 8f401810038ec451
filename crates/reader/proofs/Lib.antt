pub mod Closings
pub mod Terminals
pub mod Loops
pub mod Cycle
pub mod RulesHead
pub mod RulesLoop
pub mod PrologParts
