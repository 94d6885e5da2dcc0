-- The laws that crates above at_object cite, by what they are about.

-- what each kind of call leaves of its pass: loads of lengths, a payment from a single account, one from a shared one, any payment
pub mod Looked
pub mod Alone
pub mod InRound
pub mod Made
-- the same of any call, what it may take, and what its look had seen
pub mod Calls
pub mod Within
pub mod Looks
-- the seat and the rest of one pass, and what is left of it where the seat takes in what another has seen
pub mod OnePass
pub mod Learning
-- what a payment needs, and why it is done where the balance covers it
pub mod Room
pub mod Covered
-- what all balances after a prefix sum to
pub mod Totals
-- the passes of a new ledger
pub mod NewPasses
-- each prefix of a history is one; the keys and the looks of receipts stay in a longer list, with more receipts; calls after notes
pub mod Histories
pub mod Keys
pub mod Notes
