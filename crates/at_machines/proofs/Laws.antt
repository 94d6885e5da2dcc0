-- The laws that crates above at_machines cite: how many steps a snapshot can have, and which step each turn makes.
pub mod Snapshots
pub mod Steps
