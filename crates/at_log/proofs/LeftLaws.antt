-- The laws of receipts that stand with a seat, by what they are about.
-- a receipt in a longer list: it stays placed (IsPlaced-IsPrefix) with the same key (key_of-IsPrefix), and no key is above twice the
-- length (key_of-le, keys_of-le)
pub mod Keys
-- receipts that account for all that a process has: none (Told-nil), in a longer list (Told-IsPrefix), with one more receipt in the
-- same list (Told-push) or in a longer one (Told-call)
pub mod Told
-- the same after a call, by where its receipt stands (Told-still, Told-own, Told-round): behind what stood before (StandsBehind-cut)
pub mod Calls
-- counts: an own record is one more (owns_of-paid) and names no slot (named-push_own); as many rounds name a slot as it has settled
-- requests (named-all_settled); what one more receipt adds (owns_in-push, asks_in-push_source, asks_in-push_elsewhere)
pub mod Counts
-- a seat between calls: as many rounds name a slot as its process has requests (named-IsBetweenCalls), and its receipts count them
-- (asks_in-StandsWith)
pub mod Seats
-- what the end of a board adds: no round names a slot but for an announced request (named-announced, named-settled), so receipts that
-- stand with a seat account for all (Told-ended), which is in order (AreInOrder-ended)
pub mod Ended
-- a process's own records and its requests are in order: in a longer list without own records of it (AreInOrder-IsPrefix,
-- AreInOrder-count_of), with its next own record (AreInOrder-paid), with its next request (AreInOrder-asked), and with the same rows
-- given otherwise (AreInOrder-rows)
pub mod Order
-- a seat and its receipts: on a new board (StandsWith-starting), where nothing is announced (announced-starting), and after a call
-- that is a HasCalled (StandsWith-still, StandsWith-own, StandsWith-asked)
pub mod Stands
