pub mod Prelude
pub mod LineLaws
pub mod PieceLaws
pub mod WordLaws
pub mod ReportLaws
pub mod NodeTexts
pub mod RecordLaws
