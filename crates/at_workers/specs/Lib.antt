pub mod Prelude
pub mod Costs
pub mod Jobs
