-- A schedule: whose turn each turn is, as the records of its file spell it, or the first fault.
use Rattle.std.specs.Prelude.{◌≡◌, ℕ, ◌<◌, ◌≤◌, ◌==◌, List, [], ◌∷◌, length, map, All, decimal, nat_lt, Option, Some, None, Result, Ok, Err, if◌then◌else◌}
use Rattle.at_files.specs.Limits.{most_scheduled_turns}
use Rattle.at_files.specs.Records.{Fields, number_at}
use Rattle.at_files.specs.Spelled.{items_of}
use Rattle.at_files.specs.declared.schedule.ScheduleWhy.{ScheduleWhy}
use Rattle.at_files.specs.declared.schedule.ScheduleWhy.TheVariants.{TooManyTurns, Shape, Number, UnknownProcess}
use Rattle.at_files.specs.declared.spelled.BadRecord.{BadRecord}

-- the turn of a process among so many
abbrev pub turn_among : ℕ → ℕ → Result ℕ ScheduleWhy
turn_among processes process = if nat_lt process processes then Ok process else Err UnknownProcess

-- the same, where the field is a number
abbrev pub turn_read : ℕ → Option ℕ → Result ℕ ScheduleWhy
turn_read processes (Some process) = turn_among processes process
turn_read processes None = Err Number

-- the turn that a record spells
abbrev pub turn_of : ℕ → Fields → Result ℕ ScheduleWhy
turn_of processes fields = if length fields == 1 then turn_read processes (number_at fields 0) else Err Shape

-- the turns of a file's records, or the first fault
abbrev pub schedule_of : ℕ → List Fields → Result (List ℕ) (BadRecord ScheduleWhy)
schedule_of processes records = items_of (turn_of processes) most_scheduled_turns TooManyTurns records

-- the record of a process's turn
abbrev pub fields_of_turn : ℕ → Fields
fields_of_turn process = decimal process ∷ []

-- the records are these turns of so many processes, written out one after another
pub record Schedules (processes : ℕ) (records : List Fields) (turns : List ℕ) : Type 0 where
  pub spelled : records ≡ map fields_of_turn turns
  pub each : All (λ process. process < processes) turns
  pub few : length turns ≤ most_scheduled_turns
