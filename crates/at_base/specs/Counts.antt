-- Comparing lists of counts.
use Rattle.std.specs.Prelude.{ℕ, ◌<◌, ◌≤◌, List, length, slice_index}

-- no count of the first list is below that of the second
abbrev pub Covers : List ℕ → List ℕ → Type 0
Covers counts others = (p : ℕ) → p < length counts → slice_index others p ≤ slice_index counts p
