pub mod Prelude
pub mod Knowledge
pub mod Steps
pub mod Words
pub mod Ends
pub mod Rule
pub mod Counting
