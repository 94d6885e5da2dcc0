pub mod Books
pub mod Kept
pub mod Asking
pub mod Seats
pub mod Agreement
pub mod Records
pub mod Counts
pub mod Candidates
