pub mod Prelude
-- what a function gives of each element, one after another
pub mod TextLaws
-- the calls of a process, turn by turn
pub mod SpanLaws
-- the turns of a process, and which of them decide
pub mod TurnLaws
-- a call of the files
pub mod FileLaws
