pub mod Prelude
pub mod Laws
pub mod Sharing
-- what crates above cite
pub mod LeftLaws
-- the lists of records that a closed board fills
pub mod FilledLogs
-- lists alone: with the same records, and where records stand in them
pub mod SameRecords
pub mod RecordPositions
-- what a ledger leaves: its held cuts, its order, its rounds and entries
pub mod LeftCuts
pub mod OrderOfLeft
pub mod LeftRounds
pub mod LeftEntries
-- its receipts: where they stand, their keys, and that they account for all
pub mod Marks
pub mod LeftKeys
pub mod LeftTold
-- that it is coherent
pub mod Coherence
-- that its journal's order keeps the time of its list
pub mod InTime
-- and so is the closing of a closed board, whose journal keeps time too
pub mod EndedLeft
