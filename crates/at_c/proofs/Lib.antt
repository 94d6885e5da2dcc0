pub mod Prelude
pub mod Kept
mod Lines
mod Near
mod Places
pub mod Sharing
mod Walks
