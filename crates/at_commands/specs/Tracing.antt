-- What `trace` prints.
use Rattle.std.specs.Prelude.{◌≡◌, ℕ, List}
use Rattle.at_commands.specs.Prelude.{IsReplayBy, Replayed, trace_text}
use Rattle.at_commands.specs.Replaying.{Replay}

-- the text has a record for each turn of what was made of the files' calls by the turns of the schedule: the step that it made, as its machine
-- told it, and the reply of the call that it answered
pub record ShowsTrace (r : Replay) (text : List ℕ) : Type 0 where
  pub made : Replayed
  pub replay : IsReplayBy r.what.book r.what.files r.further made
  pub printed : text ≡ trace_text r.what.book r.what.names made.turns.items
