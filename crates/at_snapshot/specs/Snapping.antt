-- Snapshots in the making, from one collect to the next.
use Rattle.std.specs.Prelude.{◌≡◌, ℕ, ◌+◌, ◌*◌, ◌<◌, ◌≤◌, ◌==◌, List, [], ◌∷◌, Option, Some, None, if◌then◌else◌}
use Rattle.at_snapshot.specs.Prelude.{BookTerms, Knowledge, loads_of, own_part}
use Rattle.at_snapshot.specs.declared.collects.Collects.{Collects}
use Rattle.at_snapshot.specs.Collected.{HasLoaded}
use Rattle.at_snapshot.specs.Scans.{IsScanOf, ScanTerms, SeesOwnRecords}

-- one where two numbers are equal
unfoldable pub one_if_same : ℕ → ℕ → ℕ
one_if_same f l = if f == l then 1 else 0

-- how many positions of two lists have the same number
unfoldable pub unmoved : List ℕ → List ℕ → ℕ
unmoved [] ls = 0
unmoved (f ∷ fs) [] = 0
unmoved (f ∷ fs) (l ∷ ls) = one_if_same f l + unmoved fs ls

-- how many collects may still say that one more is needed, of n processes: each moves a count that hadn't moved since the first
abbrev pub turns_left : ℕ → Option Collects → ℕ
turns_left n None = n + 1
turns_left n (Some c) = unmoved c.first c.last

-- a snapshot since the seat knew `begun`, after so many collects, none of which has ended it: they are those of the scan, they have
-- loaded lengths alone, each length once a collect, and few more may follow. The steps were `before` at the start
pub record IsSnapping (b : BookTerms) (begun : Knowledge) (scan : ScanTerms) (v : Knowledge) (before steps turns : ℕ) : Type 0 where
  pub scan_of : IsScanOf b scan v
  pub start : scan.start ≡ begun
  pub own : SeesOwnRecords scan.start
  pub new : scan.collects ≡ None → v ≡ begun
  pub loaded : (c : Collects) → scan.collects ≡ Some c → HasLoaded b begun v
  pub times : (p : ℕ) → p < b.processes → (loads_of (own_part v) p).times ≡ (loads_of (own_part begun) p).times + turns
  pub steps_are : steps ≡ before + turns * b.processes
  pub few : turns + turns_left b.processes scan.collects ≤ b.processes + 1
