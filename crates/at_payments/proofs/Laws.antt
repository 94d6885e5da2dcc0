-- The laws of single accounts that crates above cite, by what they are about: what a look tells of totals and of its seat, what it lets a receipt
-- and a payment be, and a payment that is published after it.
pub mod Looks
pub mod OwnRecords
pub mod Paid
pub mod Placed
