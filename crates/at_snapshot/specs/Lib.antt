pub mod Prelude
pub mod Collected
pub mod Scans
pub mod Turns
pub mod Verdicts
pub mod Snapping
pub mod Snapshots
