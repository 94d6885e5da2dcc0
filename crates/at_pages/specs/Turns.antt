-- The turns of a process.
use Rattle.std.specs.Prelude.{ℕ, ◌==◌, List, Option, filter, length, slice_index_or}
use Rattle.at_pages.specs.Prelude.{range_with_len, BoardStep, turn_at, TurnMade}

-- the numbers of its turns, in order
abbrev pub own_turns : List TurnMade → ℕ → List ℕ
own_turns turns p = filter (λ m. (turn_at turns m).process == p) (range_with_len 0 (length turns))

-- the one of this position among them, and the end of all turns past the last
abbrev pub own_turn : List TurnMade → ℕ → ℕ → ℕ
own_turn turns p k = slice_index_or (own_turns turns p) k (length turns)

-- the step of that one
abbrev pub own_step : List TurnMade → ℕ → ℕ → Option BoardStep
own_step turns p k = (turn_at turns (own_turn turns p k)).step
