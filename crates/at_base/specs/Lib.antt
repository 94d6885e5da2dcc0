pub mod Prelude
pub mod Numbers
pub mod Decision
pub mod Head
pub mod Counts
