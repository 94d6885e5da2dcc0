-- Scans as callers see them.
use Rattle.std.specs.Prelude.{◌≡◌, ℕ, ◌+◌, ◌<◌, ◌≤◌, List, length, slice_index, Option, Some, None, IfSome}
use Rattle.at_snapshot.specs.Prelude.{Covers, BookTerms, Knowledge, IsPrefix, count_of, loads_of, own_part}
use Rattle.at_snapshot.specs.declared.collects.Collects.{Collects}
use Rattle.at_snapshot.specs.Collected.{collect_of}

-- the seat has seen all records of its own process
abbrev pub SeesOwnRecords : Knowledge → Type 0
SeesOwnRecords v = count_of v.first v.seen ≡ (own_part v).published

-- a scan by what its seat had seen at the start and at the end of the last collect, and by its first collect and its last
pub record ScanTerms : Type 0 where
  pub start : Knowledge
  pub mark : Knowledge
  pub collects : Option Collects

abbrev pub starting_scan : Knowledge → ScanTerms
starting_scan v = record { start = v; mark = v; collects = None }

-- the collects after one more, which is the first where there was none
abbrev pub collects_after : Option Collects → List ℕ → Collects
collects_after None collect = record { first = collect; last = collect }
collects_after (Some c) collect = record { first = c.first; last = collect }

-- the scan after a collect
abbrev pub scan_after : ScanTerms → Knowledge → ScanTerms
scan_after scan v = record { start = scan.start; mark = v; collects = Some (collects_after scan.collects (collect_of v)) }

-- how often a scan has loaded each length at least
abbrev pub loads_at_least : Option Collects → ℕ
loads_at_least None = 0
loads_at_least (Some c) = 1

-- the collects of a scan: the first counts all that was seen at the start, the last no more than what was seen at its end, and
-- no count has fallen
pub record AreCollects (b : BookTerms) (scan : ScanTerms) (c : Collects) : Type 0 where
  pub first_length : length c.first ≡ b.processes
  pub last_length : length c.last ≡ b.processes
  pub seen : IsPrefix scan.start.seen scan.mark.seen
  pub first : (p : ℕ) → p < b.processes → count_of p scan.start.seen ≤ slice_index c.first p
  pub last : (p : ℕ) → p < b.processes → slice_index c.last p ≤ count_of p scan.mark.seen
  pub rising : Covers c.last c.first

-- this is what a scan's seat knows, which has published nothing since the start
pub record IsScanOf (b : BookTerms) (scan : ScanTerms) (v : Knowledge) : Type 0 where
  pub process : v.first ≡ scan.start.first
  pub published : (own_part v).published ≡ (own_part scan.start).published
  pub started : IsPrefix scan.start.seen v.seen
  pub marked : IsPrefix scan.mark.seen v.seen
  pub loads : (p : ℕ) → p < b.processes → (loads_of (own_part scan.start) p).times + loads_at_least scan.collects ≤ (loads_of (own_part v) p).times
  pub collects : IfSome scan.collects (AreCollects b scan)
