pub mod Prelude
pub mod Laws
pub mod Ages
pub mod DecidedLaws
