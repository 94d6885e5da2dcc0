-- The answers of a scan's turns.
use Rattle.std.specs.Prelude.{◌≡◌, ◌≢◌, ℕ, ◌+◌, ◌-◌, ◌<◌, ◌≤◌, List, length, slice_index, MatchOption}
use Rattle.at_snapshot.specs.Prelude.{Knowledge, publication_at, publications_of}
use Rattle.at_snapshot.specs.declared.collects.Collects.{Collects}
use Rattle.at_snapshot.specs.declared.scan.Turn.{Turn}
use Rattle.at_snapshot.specs.declared.scan.Turn.TheVariants.{Clean, Borrowed, Again}
use Rattle.at_snapshot.specs.Collected.{collect_of}
use Rattle.at_snapshot.specs.Scans.{ScanTerms}

-- another process's count is at least two above the first
pub record HasRisen (process : ℕ) (first now : List ℕ) (p : ℕ) : Type 0 where
  pub within : p < length now
  pub other : p ≢ process
  pub risen : slice_index first p + 2 ≤ slice_index now p

-- it is the least such process
pub record IsLeastRisen (process : ℕ) (first now : List ℕ) (p : ℕ) : Type 0 where
  pub risen : HasRisen process first now p
  pub least : (q : ℕ) → q < p → ¬ HasRisen process first now q

-- the collect differs from the one before, and no other process has risen by two
pub record LeavesUndecided (c : Collects) (v : Knowledge) (now : List ℕ) : Type 0 where
  pub differs : c.last ≢ now
  pub none : (p : ℕ) → ¬ HasRisen v.first c.first now p

-- the collect equals the one before, and these are its counts
pub record IsRepeated (c : Collects) (now counts : List ℕ) : Type 0 where
  pub equal : c.last ≡ now
  pub counts_are : counts ≡ now

-- the collect differs from the one before, another process has risen by two, and the counts are the view of the last record
-- counted of the least such process
pub record IsLent (c : Collects) (v : Knowledge) (now counts : List ℕ) : Type 0 where
  pub differs : c.last ≢ now
  pub process : ℕ
  pub least : IsLeastRisen v.first c.first now process
  pub counts_are : counts ≡ (publication_at (publications_of process v.seen) (slice_index now process - 1)).view

-- what a later collect answers, by the collects before it
abbrev pub IsVerdict : Collects → Knowledge → List ℕ → Turn → Type 0
IsVerdict c v now (Clean counts) = IsRepeated c now counts
IsVerdict c v now (Borrowed counts) = IsLent c v now counts
IsVerdict c v now Again = LeavesUndecided c v now

-- what a turn answers: Again at the first collect, and later by the collects before it
abbrev pub IsAnswer : ScanTerms → Knowledge → Turn → Type 0
IsAnswer scan v turn = MatchOption scan.collects (turn ≡ Again) (λ c. IsVerdict c v (collect_of v) turn)

-- the steps of a turn beside its collect
abbrev pub view_steps : ℕ → Turn → ℕ
view_steps n (Clean counts) = 0
view_steps n (Borrowed counts) = n
view_steps n Again = 0
