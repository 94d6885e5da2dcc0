pub mod Prelude
pub mod Callers
pub mod KeptCallers
pub mod Stepping
pub mod KeptStepping
pub mod Schedules
pub mod InTurns
pub mod Replays
