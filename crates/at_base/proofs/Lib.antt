pub mod Prelude
pub mod NumberLaws
pub mod DecisionLaws
