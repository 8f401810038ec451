pub mod Costs
