pub mod Decide
pub mod Announce
pub mod Start
pub mod Publish
pub mod Overtaking
