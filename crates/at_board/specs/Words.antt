pub mod Packed
pub mod Targets
pub mod Addresses
pub mod Shown
