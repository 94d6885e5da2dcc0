-- What a table's rule says of two seats at once.
use Rattle.std.specs.Prelude.{◌≡◌, ℕ}
use Rattle.at_board.specs.Prelude.{get_elem?, some, State}

-- the table has some state in which the rule holds, and two different seats know this
abbrev pub AreSeen : {S V : Type 0} → (State S V → Type 0) → ℕ → V → ℕ → V → Type 0
AreSeen {S} {V} holds id v other w =
    (s : State S V) × holds s × (¬ (other ≡ id)) × (get_elem? s.views id ≡ some v) × (get_elem? s.views other ≡ some w)
