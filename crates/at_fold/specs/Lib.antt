pub mod Prelude
pub mod Sums
pub mod Counted
pub mod HasCounted
pub mod CatchingUp
