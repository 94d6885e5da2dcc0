-- The laws that crates above cite.
-- what a seat has on an account after loads there
pub mod Accounts
-- asking, a step at a time
pub mod Asking
-- loads of requests, a word at a time
pub mod Loading
-- the row of one owner, and loads of rows one after another
pub mod Rows
-- collecting all rows, a row at a time
pub mod Collecting
-- that the oldest of what was collected is the request that the seat may propose
pub mod Proposals
