-- The laws of shared accounts that crates above cite, by what they are about.
-- what the steps of a turn leave of what a seat has on an account, and what those of a start do
pub mod After
pub mod Starting
-- what calls add to the requests of an account
pub mod Added
-- what a helping keeps, and where its payment is placed
pub mod Kept
pub mod Placing
-- what a helping may propose
pub mod Proposing
-- a start of its parts, and what it gives
pub mod Started
-- the round of a turn, and a turn of its parts
pub mod Turning
pub mod Turned
-- the publishing of a turn's round, and turns in a row
pub mod Turns
-- what was loaded before a request was announced, and the snapshot that it stands after
pub mod Asked
-- the steps of a call, turn by turn
pub mod Counting
