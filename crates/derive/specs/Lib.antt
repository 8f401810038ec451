pub mod Derive
pub mod Chosen
pub mod Level
pub mod Bound
pub mod Pick
pub mod Another
pub mod Productive
pub mod Yield
