-- What a snapshot tells of totals, and of what its seat knows.
use Rattle.std.proofs.Common.{◌≡◌, ℕ, ◌<◌, List, length, sym, ap, subst, ◌∙◌, arith}
use Rattle.at_payments.proofs.Prelude.{get_or-set_same, Covers, BookTerms, count_of-take-le, get_or-counts, length-counts, get_or-IsCut, length-IsCut, IsPrefix-count_of, IsPrefix-refl, balance_after, IsCut, place, prefix_of, Publication, no_part, own_part, Knowledge, Part, CountsAccount, CountsCut, HasCounted, HasRecords, TotalSums, HasLooked, HasLoaded, IsSnapshot}

-- a snapshot counts all that totals had counted of what was seen
pub Covers-IsSnapshot : (b : BookTerms) (v w : Knowledge) (t : TotalSums) (cut : List ℕ) → IsSnapshot b v w cut → HasCounted t b v.seen
    → Covers cut t.upto
Covers-IsSnapshot b v w t cut snapshot counted p below =
    let n = b.processes in
    let known : p < n = omega (arith, below, length-IsCut n cut w.seen snapshot.cut) in
    omega (
      arith,
      counted.within p (omega (arith, known, length-counts n v.seen)),
      get_or-counts n v.seen p 0 known,
      IsPrefix-count_of p v.seen (prefix_of cut w.seen) snapshot.begins,
      get_or-IsCut n cut w.seen p snapshot.cut known,
    )

-- a list has the records that a cut of it counts
pub HasRecords-IsCut : (b : BookTerms) (xs : List Publication) (cut : List ℕ) → IsCut b.processes cut xs → HasRecords b xs cut
HasRecords-IsCut b xs cut is = record {
  sized = length-IsCut b.processes cut xs is;
  within = λ p below.
      let known : p < b.processes = omega (arith, below, length-counts b.processes xs) in
      omega (arith, get_or-counts b.processes xs p 0 known, get_or-IsCut b.processes cut xs p is known, count_of-take-le p (place cut) xs);
}

-- loads of lengths leave the process, the book and the number of its records as they were
pub first-HasLoaded : (b : BookTerms) (v w : Knowledge) → HasLoaded b v w → w.first ≡ v.first
first-HasLoaded b v w told = ap (λ (t : Knowledge). t.first) told.same

pub published-HasLoaded : (b : BookTerms) (v w : Knowledge) → 0 < length v.parts → HasLoaded b v w → (own_part w).published ≡ (own_part v).published
published-HasLoaded b v w part told =
    let own = ap own_part told.same ∙ get_or-set_same v.parts 0 (record (own_part v) { loads = (own_part w).loads }) no_part part in
    ap (λ (q : Part). q.published) own

-- what a call has looked at, its totals have counted
pub HasCounted-HasLooked : (b : BookTerms) (v w : Knowledge) (was now : TotalSums) (cut : List ℕ) → HasLooked b v w was now cut → HasCounted now b w.seen
HasCounted-HasLooked b v w was now cut looked = looked.counted w.seen (IsPrefix-refl w.seen)

pub CountsAccount-HasLooked : (b : BookTerms) (v w : Knowledge) (was now : TotalSums) (cut : List ℕ) (a : ℕ) → HasLooked b v w was now cut → a < length b.accounts
    → CountsAccount now b w.seen a
CountsAccount-HasLooked b v w was now cut a looked account_in =
    record { counted = HasCounted-HasLooked b v w was now cut looked; account_in = account_in }

pub CountsCut-HasLooked : (b : BookTerms) (v w : Knowledge) (was now : TotalSums) (cut : List ℕ) → HasLooked b v w was now cut → CountsCut now b w.seen
CountsCut-HasLooked b v w was now cut looked =
    record { history = looked.loads.history; cut = subst (λ f. IsCut b.processes f w.seen) (sym looked.upto) looked.snapshot.cut }

-- so the balance that they tell is that of the cut
pub balance-HasLooked : (b : BookTerms) (v w : Knowledge) (was now : TotalSums) (cut : List ℕ) (a balance : ℕ) → HasLooked b v w was now cut → a < length b.accounts
    → ((b' : BookTerms) (seen : List Publication) → CountsAccount now b' seen a → CountsCut now b' seen → balance ≡ balance_after b' (prefix_of now.upto seen) a)
    → balance ≡ balance_after b (prefix_of cut w.seen) a
balance-HasLooked b v w was now cut a balance looked account_in told =
    told b w.seen (CountsAccount-HasLooked b v w was now cut a looked account_in) (CountsCut-HasLooked b v w was now cut looked)
    ∙ ap (λ f. balance_after b (prefix_of f w.seen) a) looked.upto
