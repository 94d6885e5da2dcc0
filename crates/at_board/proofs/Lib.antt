pub mod Prelude
pub mod Counting
pub mod StepLaws
pub mod EndLaws
pub mod KnowledgeLaws
pub mod WordLaws
pub mod OneList
pub mod Sharing
