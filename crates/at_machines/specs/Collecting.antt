-- Collects that are made one load a turn.
use Rattle.std.specs.Prelude.{ℕ, ◌+◌, ◌==◌, Option, None, Some, if◌then◌else◌}
use Rattle.at_machines.specs.Prelude.{BookTerms, Knowledge, loads_of, own_part, LoadsLength, BoardStep, BoardWord}

-- a collect by what its seat knew at the start and after the last turn, and by how many lengths are loaded
pub record CollectingTerms : Type 0 where
  pub start : Knowledge
  pub mark : Knowledge
  pub loaded : ℕ

abbrev pub starting_collecting : Knowledge → CollectingTerms
starting_collecting v = record { start = v; mark = v; loaded = 0 }

-- the collect after one more turn
abbrev pub collecting_after : CollectingTerms → Knowledge → CollectingTerms
collecting_after c v = record { start = c.start; mark = v; loaded = c.loaded + 1 }

-- the next load: none after the last length
abbrev pub collect_step : CollectingTerms → Option BoardStep
collect_step c = if c.loaded == c.start.book.processes then None else Some (BoardStep.Load (BoardWord.Length c.loaded))

-- the seat has loaded the length of one process, and nothing else
abbrev pub LoadsLengthOf : BookTerms → Knowledge → Knowledge → ℕ → Type 0
LoadsLengthOf b before after p = LoadsLength b before after p (loads_of (own_part after) p).last
