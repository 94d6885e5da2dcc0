-- Laws for callers: what files that are loaded one after another give (FilesLoaded); when a refusal comes of what is expected, when no
-- fault is counted, and that all is done where nothing is refused (MayRefuse); what is answered where no fault is counted (Exact);
-- that what the files spell is loaded (SpelledLoaded); what a command leaves, by what it promises (Commands), and what forms promise
-- (Forms); what a right report leads to (Claims); that the run of a schedule is one of its files (Replays); lines of whole files name
-- accounts of the book, and no call changes the total (RunTotals); words are refused exactly where they ask for nothing (Formless).
pub mod Claims
pub mod Commands
pub mod Exact
pub mod FilesLoaded
pub mod Formless
pub mod Forms
pub mod MayRefuse
pub mod Replays
pub mod RunTotals
pub mod SpelledLoaded
