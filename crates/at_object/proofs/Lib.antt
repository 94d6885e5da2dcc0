pub mod Prelude
pub mod Laws
-- closing: what the seats give
pub mod ClosingSeats
-- own room that nobody can use
mod OwnRoom
-- what crosses threads
pub mod Sharing
