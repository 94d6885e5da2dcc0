-- What the files hold of a command that plays a schedule, and the run of it.
use Rattle.std.proofs.Common.{◌≡◌, ◌∙◌, ℕ, ◌≤◌, ◌^◌, List, length, All, refl, arith}
use Rattle.at_commands.proofs.Prelude.{IsFile, IsPlayable, NamedBook, contents_of, file_records, length-contents_of, schedule_of-Schedules, IsLineOn, Legal, Whole, Call, Line, report_text, IsSpelled, PaysReplayBytes, loaded_shown, named_book, replay_calls_given, IsReplayBy, Replayed, ReportsReplay}
use Rattle.at_commands.proofs.Laws.SpelledLoaded.{Accepts-replay}
use Rattle.at_commands.specs.Commanding.{AreRead, IsLoadedForm}
use Rattle.at_commands.specs.Replaying.{Printing, turns_terms}
use Rattle.at_commands.specs.declared.loading.Loaded as program
use Rattle.at_commands.proofs.Laws.RunTotals.{IsLineOn-Whole, sum-last_state}

-- what the files spell is read, the schedule too
pub turns_terms-read : (prints : Printing) → AreRead replay_calls_given PaysReplayBytes (turns_terms prints)
turns_terms-read prints = record {
  accepts = Accepts-replay;
  read = λ files book words l bytes schedule is spelled.
      let few : l.book.processes ≤ 2 ^ 64 = omega (arith, is.book.spelled.book.begun.few_processes) in
      rw (schedule_of-Schedules l.book.processes (file_records bytes) schedule few spelled) refl;
}

-- calls that payment files for a replay spell can be played
IsPlayable-replayed : (b : NamedBook) (all : List (List Call)) → All (IsSpelled (PaysReplayBytes b)) all → All (IsPlayable (length b.book.accounts)) all
IsPlayable-replayed b all spelled k d below =
    let pays = (spelled k d below).2.pays in
    record { known = pays.known; few = pays.few }

pub IsPlayable-loaded : (l : program.Loaded Call) → IsLoadedForm PaysReplayBytes l → All (IsPlayable (length l.book.accounts)) (contents_of l.files.items)
IsPlayable-loaded l is = IsPlayable-replayed (named_book l.book l.names) (contents_of l.files.items) is.known

-- they are numbered by 32 bits, and are fewer than that
pub IsFile-loaded : (l : program.Loaded Call) → IsLoadedForm PaysReplayBytes l → All (IsFile (length l.book.accounts)) (contents_of l.files.items)
IsFile-loaded l is k d below =
    let file = IsPlayable-loaded l is k d below in
    record { known = file.known; few = omega (arith, file.few) }

-- the lines of a run of them name accounts of the book
pub IsLineOn-loaded : (l : program.Loaded Call) (lines : List Line) → IsLoadedForm PaysReplayBytes l → Whole (contents_of l.files.items) lines
    → All (IsLineOn l.book.processes (length l.book.accounts)) lines
IsLineOn-loaded l lines is whole =
    IsLineOn-Whole (length l.book.accounts) l.book.processes (contents_of l.files.items) lines whole
    (length-contents_of l.files.items ∙ is.count) (λ p d within. (IsPlayable-loaded l is p d within).known)

-- the report of a run of them
pub ReportsReplay-lines : (l : program.Loaded Call) (schedule : List ℕ) (made : Replayed) (text : List ℕ) → IsLoadedForm PaysReplayBytes l
    → IsReplayBy l.book (contents_of l.files.items) schedule made → Whole (contents_of l.files.items) made.lines.items → Legal l.book made.lines.items
    → text ≡ report_text l.book l.names made.lines.items → ReportsReplay (record { what = loaded_shown l; further = schedule }) text
ReportsReplay-lines l schedule made text is replay whole legal printed = record {
  made = made;
  replay = replay;
  whole = whole;
  legal = legal;
  total = sum-last_state l.book l.book.processes made.lines.items (IsLineOn-loaded l made.lines.items is whole);
  printed = printed;
}
