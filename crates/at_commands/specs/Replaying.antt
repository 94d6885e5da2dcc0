-- What the files of the commands hold that play a schedule, and what `replay` prints of them.
use Rattle.std.specs.Prelude.{◌≡◌, ℕ, List, sum, Result, Ok, Err}
use Rattle.at_commands.specs.Prelude.{Call, total_of, Legal, Whole, last_state, file_records, location_of, Schedules, schedule_of, ScheduleWhy, BadRecord, report_text, Status, IsReplayBy, Replayed}
use Rattle.at_report.specs.declared.status.Status.TheVariants as status
use Rattle.at_commands.specs.Commands.{KeepingNone, Never}
use Rattle.at_commands.specs.Forms.{FurtherOf, FurtherTerms}

-- a book, the calls of each process, and the schedule of their turns
abbrev pub Replay : Type 0
Replay = FurtherOf Call ℕ

-- the text is the report of what was made of the files' calls by the turns of the schedule: one legal run, each process's calls once and in
-- file order. The balances that it prints are the run's last, and their sum is that of the openings
pub record ReportsReplay (r : Replay) (text : List ℕ) : Type 0 where
  pub made : Replayed
  pub replay : IsReplayBy r.what.book r.what.files r.further made
  pub whole : Whole r.what.files made.lines.items
  pub legal : Legal r.what.book made.lines.items
  pub total : sum (last_state r.what.book made.lines.items).balances ≡ total_of r.what.book
  pub printed : text ≡ report_text r.what.book r.what.names made.lines.items

-- the schedule of a file's bytes
abbrev pub schedule_read : List ℕ → Result (List ℕ) (BadRecord ScheduleWhy) → Result (List ℕ) Status
schedule_read bytes (Ok schedule) = Ok schedule
schedule_read bytes (Err bad) = Err (status.BadSchedule (location_of bytes bad.line) bad.why)

-- what a command prints of a run by a schedule
abbrev pub Printing : Type 1
Printing = Replay → List ℕ → Type 0

-- a command that plays a schedule
abbrev pub turns_terms : Printing → FurtherTerms Call ℕ
turns_terms prints = record {
  given = λ l bytes. schedule_read bytes (schedule_of l.book.processes (file_records bytes));
  spells = λ l bytes schedule. Schedules l.book.processes (file_records bytes) schedule;
  refuses = Never;
  prints = KeepingNone prints;
}
