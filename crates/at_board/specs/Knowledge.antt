pub mod Agreement
pub mod Seats
pub mod Fresh
pub mod Parts
pub mod Records
pub mod Knows
pub mod Candidates
pub mod Overviews
