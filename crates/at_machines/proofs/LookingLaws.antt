-- A look from one turn to the next.
use Rattle.std.proofs.Common.{◌≡◌, ℕ, ◌+◌, ◌≤◌, List, ap, length, sym, subst, ◌∙◌, arith}
use Rattle.at_machines.proofs.Prelude.{sum, BookTerms, length-IsCut, place-IsCut-le, sum-Covers-le, ArePublishedBy-IsHistory, places_max, Knowledge, StaysCounted-HasCounted, HasCounted, StaysCounted, TotalSums, Covers-IsSnapshot, HasLooked, HasLoaded, CatchingUpTerms, loads_left, IsLookingSo, IsSnapped, SnappingTerms, CatchUp, Snap}

-- a cut counts at most what is seen
pub sum-IsSnapped : (b : BookTerms) (v w : Knowledge) (cut : List ℕ) → IsSnapped b v w cut → sum cut ≤ length w.seen
sum-IsSnapped b v w cut snapped =
    place-IsCut-le b.processes cut w.seen snapped.snapshot.cut (ArePublishedBy-IsHistory b w.seen snapped.loads.history)

-- and so it is no more than the logs have room for
pub few-IsSnapped : (b : BookTerms) (v w : Knowledge) (cut : List ℕ) → IsSnapped b v w cut → sum cut ≤ places_max
few-IsSnapped b v w cut snapped = omega (arith, sum-IsSnapped b v w cut snapped, snapped.loads.history.few)

-- and at least what totals had counted before
pub more-IsSnapped : (b : BookTerms) (v w : Knowledge) (was : TotalSums) (cut : List ℕ) → HasCounted was b v.seen → IsSnapped b v w cut
    → sum was.upto ≤ sum cut
more-IsSnapped b v w was cut counted snapped =
    sum-Covers-le cut was.upto (length-IsCut b.processes cut w.seen snapped.snapshot.cut ∙ sym counted.processes)
    (Covers-IsSnapshot b v w was cut snapped.snapshot counted)

-- what was counted at the start stays counted
pub StaysCounted-HasLoaded : (b : BookTerms) (v w : Knowledge) (was : TotalSums) → HasCounted was b v.seen → HasLoaded b v w → StaysCounted was b w.seen
StaysCounted-HasLoaded b v w was counted loads =
    StaysCounted-HasCounted was b w.seen (StaysCounted-HasCounted was b v.seen counted w.seen loads.more)

module _ (start mark w : Knowledge) (was totals : TotalSums) (turns : ℕ) (s : SnappingTerms) (so : IsLookingSo start mark was totals turns (Snap s)) where
  -- nothing new is counted by the cut
  pub HasLooked-snapped : (cut : List ℕ) → IsSnapped start.book start w cut → totals.upto ≡ cut → HasLooked start.book start w was totals cut
  HasLooked-snapped cut snapped upto = record {
    snapshot = snapped.snapshot;
    loads = snapped.loads;
    counted = subst (λ (t : TotalSums). StaysCounted t start.book w.seen) (sym so.stage_so.totals_are)
        (StaysCounted-HasLoaded start.book start w was so.counted snapped.loads);
    upto = upto;
    more = more-IsSnapped start.book start w was cut so.counted snapped;
  }

-- one more word is loaded
pub IsLookingSo-caught : (start mark : Knowledge) (was totals now : TotalSums) (turns : ℕ) (c d : CatchingUpTerms)
    → IsLookingSo start mark was totals turns (CatchUp c) → d.knows ≡ c.knows → d.totals ≡ now → d.counts ≡ c.counts
    → loads_left d + 1 ≡ loads_left c → sum was.upto ≤ sum now.upto → IsLookingSo start mark was now (turns + 1) (CatchUp d)
IsLookingSo-caught start mark was totals now turns c d so knows totals_are counts left grown =
    let same : sum d.counts ≡ sum c.counts = ap (λ (xs : List ℕ). sum xs) counts in
    record {
      kept = so.kept;
      book = so.book;
      counted = so.counted;
      stage_so = record {
        knows_is = knows ∙ so.stage_so.knows_is;
        totals_are = totals_are;
        snapped = subst (IsSnapped start.book start mark) (sym counts) so.stage_so.snapped;
        more = omega (arith, so.stage_so.more, same);
        grown = grown;
        few = omega (arith, so.stage_so.few, left, same);
      };
    }
