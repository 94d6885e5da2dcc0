pub mod Prelude
pub mod FileOf
