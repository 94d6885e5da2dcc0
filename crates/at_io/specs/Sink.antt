-- What a sink has taken.
use Rattle.std.specs.Prelude.{◌≡◌, ℕ, ◌<◌, List, ◌++◌, length, take}

-- a prefix of the bytes was taken, and not all of them
abbrev pub TakesPrefix : List ℕ → List ℕ → List ℕ → Type 0
TakesPrefix before after bytes =
    (n : ℕ) × ((n < length bytes) × (after ≡ before ++ take n bytes))
