pub mod Prelude
pub mod Council
pub mod Voices
pub mod Plan
pub mod Agreement
