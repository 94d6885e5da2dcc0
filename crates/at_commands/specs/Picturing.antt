-- What `show` prints.
use Rattle.std.specs.Prelude.{◌≡◌, ℕ, List}
use Rattle.at_commands.specs.Prelude.{page_text, IsReplayBy, Replayed}
use Rattle.at_commands.specs.Replaying.{Replay}

-- the text is the page of what was made of the files' calls by the turns of the schedule
pub record ShowsPage (r : Replay) (text : List ℕ) : Type 0 where
  pub made : Replayed
  pub replay : IsReplayBy r.what.book r.what.files r.further made
  pub printed : text ≡ page_text r.what.book r.what.names r.what.files made
