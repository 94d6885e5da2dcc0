-- The seats of a new board: the first one is dealt as one for each process.
use Rattle.std.specs.Prelude.{◌≡◌, ℕ, ◌+◌, ◌<◌, List, [], ◌∷◌, length, slice_index_or, take, drop}
use Rattle.at_board.specs.Prelude.{TableId, BookTerms}
use Rattle.at_board.specs.Knowledge.Parts.{starting_part, starting_knowledge}
use Rattle.at_board.specs.Knowledge.Seats.{SeatTerms}
use Rattle.at_board.specs.declared.knowledge.Knowledge.{Knowledge}

-- the first part alone, and the others
abbrev pub first_part : Knowledge → Knowledge
first_part v = record v { parts = take 1 v.parts }

abbrev pub other_parts : Knowledge → Knowledge
other_parts v = record v { first = v.first + 1; parts = drop 1 v.parts }

-- what a process's seat knows on a new board
abbrev pub starting_seat : BookTerms → ℕ → Knowledge
starting_seat b p = record (starting_knowledge b) { first = p; parts = starting_part b ∷ [] }

-- one seat of the board for each process, in order, that has seen nothing and made no step
pub record AreNew (b : BookTerms) (id : TableId) (seats : List SeatTerms) : Type 0 where
  pub count : length seats ≡ b.processes
  pub each : (p : ℕ) (d : SeatTerms) → p < b.processes → slice_index_or seats p d ≡ record { board = id; knows = starting_seat b p; steps = 0; exchanges = 0 }
