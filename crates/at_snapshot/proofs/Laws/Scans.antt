-- A scan after one more collect.
use Rattle.std.proofs.Common.{◌≡◌, ℕ, ◌<◌, ◌≤◌, length, get_or, subst, ◌∙◌, arith, Option, Some, None}
use Rattle.at_snapshot.proofs.Prelude.{IfSome, length-map, BookTerms, IsPrefix-count_of, IsPrefix-refl, IsPrefix-trans, Loads, Knowledge, count_of, own_part, Collects, HasLoaded, IsCollect, collect_of, AreCollects, IsScanOf, ScanTerms, collects_after, scan_after}
use Rattle.at_snapshot.proofs.Laws.Loads.{first-HasLoaded, published-HasLoaded}

pub length-collect_of : (b : BookTerms) (v w : Knowledge) → HasLoaded b v w → length (collect_of w) ≡ b.processes
length-collect_of b v w told = length-map (own_part w).loads (λ (l : Loads). l.last) ∙ told.lengths

-- a collect counts no less of a process than was seen at the start
pub counts-IsScanOf : (b : BookTerms) (scan : ScanTerms) (v w : Knowledge) (p : ℕ) → IsScanOf b scan v → IsCollect b v w → p < b.processes
    → count_of p scan.start.seen ≤ get_or (collect_of w) p 0
counts-IsScanOf b scan v w p so told known = omega (arith, IsPrefix-count_of p scan.start.seen v.seen so.started, told.least p known)

-- a scan that has collected
pub AreCollects-IsScanOf : (b : BookTerms) (scan : ScanTerms) (c : Collects) (v : Knowledge) → IsScanOf b scan v → scan.collects ≡ Some c → AreCollects b scan c
AreCollects-IsScanOf b scan c v so is = subst (λ collects. IfSome collects (AreCollects b scan)) is so.collects

-- what was counted last is counted again
pub last_le : (b : BookTerms) (scan : ScanTerms) (c : Collects) (v w : Knowledge) (p : ℕ) → IsScanOf b scan v → AreCollects b scan c → IsCollect b v w
    → p < b.processes → get_or c.last p 0 ≤ get_or (collect_of w) p 0
last_le b scan c v w p so are told known =
    omega (
      arith,
      are.last p known,
      IsPrefix-count_of p scan.mark.seen v.seen so.marked,
      told.least p known,
    )

AreCollects-after : (b : BookTerms) (start mark : Knowledge) (cs : Option Collects) (v w : Knowledge)
    → IsScanOf b (record { start = start; mark = mark; collects = cs }) v → IsCollect b v w
    → AreCollects b (scan_after (record { start = start; mark = mark; collects = cs }) w) (collects_after cs (collect_of w))
AreCollects-after b start mark None v w so told =
    let scan : ScanTerms = record { start = start; mark = mark; collects = None } in
    record {
      first_length = length-collect_of b v w told.loaded;
      last_length = length-collect_of b v w told.loaded;
      seen = IsPrefix-trans start.seen v.seen w.seen so.started told.loaded.more;
      first = λ p known. counts-IsScanOf b scan v w p so told known;
      last = told.most;
      rising = λ p within. omega arith;
    }
AreCollects-after b start mark (Some c) v w so told =
    let scan : ScanTerms = record { start = start; mark = mark; collects = Some c } in
    let are : AreCollects b scan c = so.collects in
    record {
      first_length = are.first_length;
      last_length = length-collect_of b v w told.loaded;
      seen = IsPrefix-trans start.seen v.seen w.seen so.started told.loaded.more;
      first = are.first;
      last = told.most;
      rising = λ p within.
          let known : p < b.processes = omega (arith, within, length-collect_of b v w told.loaded) in
          omega (arith, are.rising p (omega (arith, known, are.last_length)), last_le b scan c v w p so are told known);
    }

pub IsScanOf-after : (b : BookTerms) (scan : ScanTerms) (v w : Knowledge) → 0 < length v.parts → IsScanOf b scan v → IsCollect b v w
    → IsScanOf b (scan_after scan w) w
IsScanOf-after b scan v w part so told = record {
  process = first-HasLoaded b v w told.loaded ∙ so.process;
  published = published-HasLoaded b v w part told.loaded ∙ so.published;
  started = IsPrefix-trans scan.start.seen v.seen w.seen so.started told.loaded.more;
  marked = IsPrefix-refl w.seen;
  loads = λ p known. omega (arith, so.loads p known, told.times p known);
  collects = AreCollects-after b scan.start scan.mark scan.collects v w so told;
}
