pub mod Prelude
pub mod Laws
pub mod SharedLaws
mod TurnLaws
