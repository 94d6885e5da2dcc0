pub mod Prelude
pub mod Held
pub mod Calls
pub mod Order
pub mod Ordered
pub mod Positions
pub mod Linearizable
