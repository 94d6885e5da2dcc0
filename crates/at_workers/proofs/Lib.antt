pub mod Prelude
-- calls one after another, and what they cost
pub mod CostLaws
-- a job whose first calls were made, and one call more
pub mod Played
-- two lists that are related place by place
pub mod Zipped
-- what crosses threads
pub mod Sharing
