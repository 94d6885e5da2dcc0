-- What the type of totals that catch up keeps of its fields, which no caller sees.
use Rattle.std.specs.Prelude.{◌≡◌, ℕ, ◌<◌, ◌≤◌, List, slice_index, Option, Some, None}
use Rattle.at_machines.specs.Prelude.{Knowledge, RECORD_WORDS, IsKept, IsCatchingUp, TotalSums}
use Rattle.at_machines.specs.Loading.{LoadingTerms}

-- what is loaded is the first record of process p that isn't counted, and the counts count it; nothing is where no process is left
abbrev pub IsLoadingNext : Knowledge → List ℕ → TotalSums → ℕ → Option LoadingTerms → Type 0
IsLoadingNext v counts t p None = v.book.processes ≤ p
IsLoadingNext v counts t p (Some l) =
    (p < v.book.processes) × (slice_index t.upto p < slice_index counts p) × (l.loaded < RECORD_WORDS)
    × (l ≡ record { knows = v; process = p; number = slice_index t.upto p; loaded = l.loaded; words = l.words })

-- the totals are on the way to the counts, at process p
pub record IsCatchingUpSo (v : Knowledge) (counts : List ℕ) (t : TotalSums) (p : ℕ) (loading : Option LoadingTerms) : Type 0 where
  pub kept : IsKept v
  pub catching : IsCatchingUp v.book v.seen counts t.upto t p
  pub within : p ≤ v.book.processes
  pub loading_so : IsLoadingNext v counts t p loading
