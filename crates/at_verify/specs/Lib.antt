pub mod Prelude
pub mod Right
pub mod Walk
