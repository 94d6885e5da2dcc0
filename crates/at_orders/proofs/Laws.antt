-- The laws that crates above at_orders cite.
-- an account that opens with all that the files ask of it
pub mod Settled
pub mod Owners
