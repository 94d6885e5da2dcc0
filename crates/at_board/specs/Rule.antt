-- The rule of the board's table.
use Rattle.std.specs.Prelude.{◌≡◌, ℕ, ◌+◌, ◌<◌, ◌≤◌, List, length}
use Rattle.at_board.specs.Prelude.{get_elem?, some, BookTerms, BoardState, Overtaking, Sound}
use Rattle.at_board.specs.Knowledge.Knows.{Knows}
use Rattle.at_board.specs.Words.Shown.{Shown}
use Rattle.at_board.specs.declared.knowledge.Knowledge.{Knowledge}

-- the knowledge has the part of the process
abbrev pub Holds : Knowledge → ℕ → Type 0
Holds v p = (v.first ≤ p) × (p < v.first + length v.parts)

-- the part of each process stands in what its seat knows and in no other. What is spent has no part
pub record AreSeated (b : BookTerms) (seat : ℕ → ℕ) (knowledge : List Knowledge) : Type 0 where
  pub only : (id p : ℕ) (v : Knowledge) → get_elem? knowledge id ≡ some v → Holds v p → seat p ≡ id
  pub some_seat : (p : ℕ) → p < b.processes → (v : Knowledge) × (get_elem? knowledge (seat p) ≡ some v) × Holds v p

-- the words stand for a sound state that keeps the law of overtaking, and whatever a seat or a note knows is in it
pub record Ruled (b : BookTerms) (words : List ℕ) (knowledge : List Knowledge) : Type 0 where
  pub state : BoardState
  pub seat : ℕ → ℕ
  pub shown : Shown b words state
  pub sound : Sound b state
  pub overtaking : Overtaking state
  pub knows : (id : ℕ) (v : Knowledge) → get_elem? knowledge id ≡ some v → Knows b words state v
  pub seated : AreSeated b seat knowledge
