pub mod Prelude
pub mod Accounts
mod WorkedWords
