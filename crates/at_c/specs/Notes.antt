-- Notes that callers leave for one another.
use Rattle.std.specs.Prelude.{◌≡◌, ℕ, ◌<◌, ◌≤◌, List}
use Rattle.at_c.specs.Prelude.{raised, BoardTerms, IsOf, SeatTerms, AreRuns, IsPrefix, longer, Receipt, IsPassOf, PassTerms, Stands, asked_by, sent_by}
use Rattle.at_c.specs.declared.given.LeftNote.{LeftNote}
use Rattle.at_c.specs.declared.outcome.Outcome.{Outcome}

-- the pass has made a note: that is one exchange
abbrev pub one_note_more : PassTerms → PassTerms
one_note_more pass = record pass { steps = raised pass.steps 1; exchanges = raised pass.exchanges 1 }

-- a pass was to leave a note for a process. Where it is done, one was made. Where it isn't, nothing has changed: there is no such
-- process, or another thread just reaches for the place
abbrev pub LeavesNote : BoardTerms → ℕ → PassTerms → PassTerms → Outcome → Type 0
LeavesNote ledger to before after Outcome.Done = (to < ledger.book.processes) × (after ≡ one_note_more before)
LeavesNote ledger to before after Outcome.NoProcess = (ledger.book.processes ≤ to) × (after ≡ before)
LeavesNote ledger to before after Outcome.Busy = (to < ledger.book.processes) × (after ≡ before)
LeavesNote ledger to before after other = ⊥

-- the pass has learned a note of its ledger: it has seen what it had seen and what the note has seen, and nothing else of what it has
-- done has changed. That is one exchange
pub record HasLearnedNote (ledger : BoardTerms) (note : SeatTerms) (before after : PassTerms) : Type 0 where
  pub learned : after.knows.seen ≡ longer before.knows.seen note.knows.seen
  pub begins : IsPrefix before.knows.seen after.knows.seen
  pub told : IsPrefix note.knows.seen after.knows.seen
  pub stands : (receipts : List Receipt) → Stands before receipts → Stands after receipts
  pub runs : AreRuns ledger.book after.knows.seen
  pub of_ledger : IsPassOf after ledger
  pub process_is : after.knows.first ≡ before.knows.first
  pub calls_are : after.calls ≡ before.calls
  pub past_is : after.past ≡ before.past
  pub sent : sent_by after ≡ sent_by before
  pub asked : (a : ℕ) → asked_by after a ≡ asked_by before a
  pub counted : after.counted ≡ before.counted
  pub steps_are : after.steps ≡ raised before.steps 1
  pub exchanges_are : after.exchanges ≡ raised before.exchanges 1

-- the pass has learned a note that this process has left for the pass's own
pub record LearnsFrom (ledger : BoardTerms) (from : ℕ) (before after : PassTerms) : Type 0 where
  pub left : LeftNote
  pub of_ledger : IsOf left.note ledger
  pub from_is : left.note.knows.first ≡ from
  pub to_is : left.to ≡ before.knows.first
  pub learned : HasLearnedNote ledger left.note before after

-- a pass was to learn what a process has left for it. Where it isn't done, nothing has changed: there is no such process, it has left
-- nothing, or another thread just reaches for the place
abbrev pub LearnsNote : BoardTerms → ℕ → PassTerms → PassTerms → Outcome → Type 0
LearnsNote ledger from before after Outcome.Done = (from < ledger.book.processes) × LearnsFrom ledger from before after
LearnsNote ledger from before after Outcome.NoProcess = (ledger.book.processes ≤ from) × (after ≡ before)
LearnsNote ledger from before after Outcome.NoNote = (from < ledger.book.processes) × (after ≡ before)
LearnsNote ledger from before after Outcome.Busy = (from < ledger.book.processes) × (after ≡ before)
LearnsNote ledger from before after other = ⊥
