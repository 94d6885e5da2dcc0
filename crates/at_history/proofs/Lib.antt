pub mod Prelude
pub mod Laws
pub mod Steps
