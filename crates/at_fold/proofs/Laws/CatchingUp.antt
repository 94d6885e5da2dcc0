-- Totals that catch up with counts: from the start, record by record and process by process, to the end.
use Rattle.std.proofs.Common.{◌≡◌, ◌≢◌, ℕ, ◌+◌, ◌<◌, ◌≤◌, List, get_or, set, refl, sym, ap, ◌∙◌, arith, inl, inr, below_more, get_or-set_other, get_or-set_same}
use Rattle.at_fold.proofs.Prelude.{cases_eq, same_number_lists, Covers, BookTerms, get_or-counts, length-counts, IsHistory, count_of, Entry, Publication, Knowledge, IsEntryOf, IsCatchingUp, HasCounted, HasRecords, MayCount, TotalSums}
use Rattle.at_fold.proofs.Laws.LoadedRecords.{MayCount-loaded}

pub IsCatchingUp-start : (b : BookTerms) (seen : List Publication) (counts : List ℕ) (t : TotalSums) → HasCounted t b seen → Covers counts t.upto
    → HasRecords b seen counts → IsCatchingUp b seen counts t.upto t 0
IsCatchingUp-start b seen counts t counted more records = record {
  counted = counted;
  records = records;
  more = more;
  done = λ q below. absurd (omega arith);
  kept = λ q above. refl;
}

-- what the counts count is in the list
pub count_of-IsCatchingUp : (b : BookTerms) (seen : List Publication) (counts start : List ℕ) (t : TotalSums) (p : ℕ) → p < b.processes
    → IsCatchingUp b seen counts start t p → get_or counts p 0 ≤ count_of p seen
count_of-IsCatchingUp b seen counts start t p known so =
    omega (arith, so.records.within p (omega (arith, known, length-counts b.processes seen)), get_or-counts b.processes seen p 0 known)

-- the first record of the process that isn't counted yet may be counted, once its entry is loaded
pub MayCount-IsCatchingUp : (b : BookTerms) (v : Knowledge) (counts start : List ℕ) (t : TotalSums) (p : ℕ) (e : Entry) → p < b.processes → IsHistory b v.seen
    → IsCatchingUp b v.seen counts start t p → get_or t.upto p 0 < get_or counts p 0 → IsEntryOf v p (get_or t.upto p 0) e → MayCount t b v.seen p e
MayCount-IsCatchingUp b v counts start t p e known history so left entry =
    MayCount-loaded t b v p (get_or t.upto p 0) e so.counted history known
    (omega (arith, left, count_of-IsCatchingUp b v.seen counts start t p known so)) refl entry

-- more records of the process are counted
pub IsCatchingUp-more : (b : BookTerms) (seen : List Publication) (counts start : List ℕ) (t t' : TotalSums) (p n : ℕ) → p < b.processes
    → IsCatchingUp b seen counts start t p → HasCounted t' b seen → t'.upto ≡ set t.upto p n → n ≤ get_or counts p 0 → IsCatchingUp b seen counts start t' p
IsCatchingUp-more b seen counts start t t' p n known so counted upto few =
    let at : (q : ℕ) → get_or t'.upto q 0 ≡ get_or (set t.upto p n) q 0 = λ q. ap (λ (l : List ℕ). get_or l q 0) upto in
    let here : get_or (set t.upto p n) p 0 ≡ n = get_or-set_same t.upto p n 0 (omega (arith, known, so.counted.processes)) in
    let there : (q : ℕ) → q ≢ p → get_or t'.upto q 0 ≡ get_or t.upto q 0 = λ q apart. at q ∙ get_or-set_other t.upto p q n 0 apart in
    record {
      counted = counted;
      records = so.records;
      more = λ q within.
          elim (cases_eq q p) as (λ _. get_or t'.upto q 0 ≤ get_or counts q 0) [
            | inl same ↦ omega (arith, at q, ap (λ k. get_or (set t.upto p n) k 0) same, here, few, ap (λ k. get_or counts k 0) same)
            | inr apart ↦ omega (arith, there q apart, so.more q within)
          ];
      done = λ q below. there q (λ e. omega (arith, e, below)) ∙ so.done q below;
      kept = λ q above. there q (λ e. omega (arith, e, above)) ∙ so.kept q above;
    }

-- all records of the process are counted
pub IsCatchingUp-next : (b : BookTerms) (seen : List Publication) (counts start : List ℕ) (t : TotalSums) (p : ℕ) → IsCatchingUp b seen counts start t p
    → get_or t.upto p 0 ≡ get_or counts p 0 → IsCatchingUp b seen counts start t (p + 1)
IsCatchingUp-next b seen counts start t p so all = record {
  counted = so.counted;
  records = so.records;
  more = so.more;
  done = below_more (λ q. get_or t.upto q 0 ≡ get_or counts q 0) p so.done all;
  kept = λ q above. so.kept q (omega (arith, above));
}

-- all records of all processes are counted
pub upto-IsCatchingUp : (b : BookTerms) (seen : List Publication) (counts start : List ℕ) (t : TotalSums) (p : ℕ) → b.processes ≤ p
    → IsCatchingUp b seen counts start t p → t.upto ≡ counts
upto-IsCatchingUp b seen counts start t p past so =
    same_number_lists t.upto counts (so.counted.processes ∙ sym so.records.sized)
    (λ q within. so.done q (omega (arith, within, so.counted.processes, past)))
