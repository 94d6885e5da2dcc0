-- Counting loaded records.
use Rattle.std.proofs.Common.{◌≡◌, ℕ, ◌+◌, ◌<◌, ◌≤◌, List, length, get_or, set, sym, ap, ◌∙◌, arith}
use Rattle.at_fold.proofs.Prelude.{sum_by-set, sum, BookTerms, publication_at, IsHistory, count_of, publications_of, Entry, Knowledge, IsEntryOf, HasCounted, MayCount, TotalSums}

-- a loaded record may be counted
pub MayCount-loaded : (t : TotalSums) (b : BookTerms) (v : Knowledge) (p i : ℕ) (e : Entry) → HasCounted t b v.seen → IsHistory b v.seen
    → p < b.processes → i < count_of p v.seen → get_or t.upto p 0 ≡ i → IsEntryOf v p i e → MayCount t b v.seen p e
MayCount-loaded t b v p i e counts history process within next entry = record {
  history = history;
  counts = counts;
  next = record {
    process = process;
    within = omega (arith, next, within);
    entry = entry ∙ ap (λ k. (publication_at (publications_of p v.seen) k).entry) (sym next);
  };
}

-- one more process's count is caught up
pub sum-caught : (xs : List ℕ) (p n : ℕ) → p < length xs → get_or xs p 0 ≤ n → sum (set xs p n) + get_or xs p 0 ≡ sum xs + n
sum-caught xs p n inside more = sum_by-set (λ (k : ℕ). k) xs p n 0 inside
