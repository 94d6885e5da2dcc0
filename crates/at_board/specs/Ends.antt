pub mod Opening
pub mod Closing
