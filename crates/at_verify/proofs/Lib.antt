pub mod Prelude
pub mod FirstLines
pub mod Walking
pub mod GoingOn
