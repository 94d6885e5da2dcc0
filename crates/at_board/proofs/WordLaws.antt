pub mod Addresses
pub mod Blocks
pub mod Sizes
pub mod Slots
pub mod Packed
pub mod Cells
pub mod Same
pub mod Unpacked
