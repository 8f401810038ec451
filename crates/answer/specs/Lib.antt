pub mod Answer
pub mod Program
pub mod Named
pub mod Compute
pub mod Demands
pub mod Fronted
