pub mod Prelude
pub mod LogFile
pub mod Following
pub mod FollowText
