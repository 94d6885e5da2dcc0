-- The laws that crates above at_fold cite, by what they are about.
-- totals while their process publishes more (MorePublished), and while they catch up with counts, record by record (CatchingUp)
pub mod MorePublished
pub mod CatchingUp
-- what is counted of a list: its records (CountedRecords), a prefix of it (CountedPrefix), and those that were loaded (LoadedRecords)
pub mod CountedRecords
pub mod CountedPrefix
pub mod LoadedRecords
