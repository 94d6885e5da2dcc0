-- Snapshots: cuts of what a seat has seen that begin with all that it had seen.
use Rattle.std.specs.Prelude.{◌≡◌, ℕ, ◌+◌, ◌*◌, ◌<◌, ◌≤◌, List, slice_index, refl}
use Rattle.at_snapshot.specs.Prelude.{BookTerms, Knowledge, IsFresh, IsCut, prefix_of, IsPrefix, loads_of, own_part}
use Rattle.at_snapshot.specs.declared.scan.Turn.{Turn}
use Rattle.at_snapshot.specs.declared.scan.Turn.TheVariants.{Clean, Borrowed, Again}

-- the counts are a cut of what the seat has seen now, whose prefix begins with all that it had seen before, and are fresh.
-- They count all that the seat's process has published
pub record IsSnapshot (b : BookTerms) (before after : Knowledge) (counts : List ℕ) : Type 0 where
  pub cut : IsCut b.processes counts after.seen
  pub begins : IsPrefix before.seen (prefix_of counts after.seen)
  pub fresh : IsFresh b before after counts
  pub own : slice_index counts before.first ≡ (own_part before).published

-- what holds of the counts of an answer
abbrev pub OnCounts : Turn → (List ℕ → Type 0) → Type 0
OnCounts (Clean counts) holds = holds counts
OnCounts (Borrowed counts) holds = holds counts
OnCounts Again holds = Unit {0}

-- each length was loaded at most so many times more
abbrev pub HasCollected : BookTerms → Knowledge → Knowledge → ℕ → Type 0
HasCollected b before after collects = (p : ℕ) → p < b.processes → (loads_of (own_part after) p).times ≤ (loads_of (own_part before) p).times + collects

-- the most steps of a snapshot of n processes
abbrev pub snapshot_steps : ℕ → ℕ
snapshot_steps n = n * n + 2 * n

-- of three, as a number: whoever changes the bound changes this too
pub snapshot_steps-3 : snapshot_steps 3 ≡ 15
snapshot_steps-3 = refl
