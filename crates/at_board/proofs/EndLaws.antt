pub mod Closed
pub mod Closing
pub mod Opening
pub mod Deals
pub mod Reading
