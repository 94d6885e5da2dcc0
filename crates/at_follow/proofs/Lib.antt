pub mod Prelude
pub mod LogFileLaws
pub mod GivingLaws
pub mod TellingEach
pub mod TextLaws
