pub mod Prelude
pub mod CountLaws
pub mod KindsTextLaws
pub mod SumLaws
pub mod GroupLaws
pub mod RightGroups
-- no call that took a pass costs more than its bounds
pub mod WithinLaws
pub mod FieldLaws
-- how many calls of each process the first turns have answered
pub mod TurnCountLaws
pub mod LedgerTextLaws
-- the entries of a journal add up, and what they assert of a legal run is right
pub mod AddingUpLaws
pub mod AskingLaws
