-- The laws that crates above at_calling cite: how many records the steps of a call publish, and which step each turn makes.
pub mod Published
pub mod Steps
