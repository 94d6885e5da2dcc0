-- The state that the words of a board stand for.
use Rattle.std.specs.Prelude.{ℕ, false, List, [], slice_index_or, Option}
use Rattle.at_history.specs.Prelude.{Decision}
use Rattle.at_history.specs.Publications.{no_publication}
use Rattle.at_history.specs.declared.cell.Cell.{Cell}
use Rattle.at_history.specs.declared.publication.Publication.{Publication}
use Rattle.at_history.specs.declared.request.Request.{Request}
use Rattle.at_history.specs.declared.request.SeenRow.{SeenRow}

-- all publications in the order of their publishing steps, the decisions of each account by round, the announced
-- requests of each account and slot by number, and the cell that each process's seat holds: it has won it, and has not yet
-- published that round with the view that it proposed from. Of the last request of each account and slot also how many rounds
-- stood when it was announced, and the announced words that its owner has loaded since then
pub record BoardState : Type 0 where
  pub published : List Publication
  pub cells : ℕ → List Decision
  pub rows : ℕ → ℕ → List Request
  pub held : ℕ → Option Cell
  pub heard : ℕ → ℕ → ℕ
  pub seen_rows : ℕ → ℕ → List SeenRow

-- the publication at a position
abbrev pub publication_at : List Publication → ℕ → Publication
publication_at list m = slice_index_or list m no_publication

-- the decision of a round
abbrev pub decision_at : List Decision → ℕ → Decision
decision_at decisions round = slice_index_or decisions round (record { ok = false; slot = 0; number = 0; place = 0 })

-- the request of a number
abbrev pub request_at : List Request → ℕ → Request
request_at row number = slice_index_or row number (record { targets = []; since = 0 })
