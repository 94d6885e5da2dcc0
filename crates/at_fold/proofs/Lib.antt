pub mod Prelude
pub mod Laws
pub mod Amounts
pub mod NewRound
pub mod OneMoreRecord
pub mod NothingCounted
pub mod NextRecord
pub mod SumsOfLists
