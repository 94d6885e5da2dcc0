-- The laws that crates above at_snapshot cite, by what they are about.
-- loads of lengths (Loads), a collect in the making and a whole one (Collects)
pub mod Loads
pub mod Collects
-- a scan between its turns (Scans), what its turns leave and how many are left (Turns), what a whole one gives (Snapshots), and what
-- its turns answer by what a collect says (Verdicts)
pub mod Scans
pub mod Turns
pub mod Snapshots
pub mod Verdicts
