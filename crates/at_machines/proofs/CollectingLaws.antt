-- A collect from one turn to the next.
use Rattle.std.proofs.Common.{◌≡◌, ℕ, ◌<◌, List, length, set, refl, sym, ap, subst, ◌∙◌, arith, inl, inr}
use Rattle.at_machines.proofs.Prelude.{cases_lt, BookTerms, IsPrefix-trans, Publication, LearnsOverview, Loads, Knowledge, LoadsLength, IsCollect-IsCollecting, IsCollecting-load, collect_of-IsCollecting, loads_of-same, IsCollect, IsCollecting, collect_of, IsCollectingSo, CollectingTerms, LoadsLengthOf, collecting_after, starting_collecting}

pub IsCollectingSo-start : (v : Knowledge) (counts : List ℕ) → 0 < length v.parts → length counts ≡ v.book.processes
    → IsCollectingSo (starting_collecting v) counts
IsCollectingSo-start v counts part sized = record {
  part = part;
  within = omega arith;
  so_far = record {
    sized = sized;
    start = λ e. refl;
    loaded = λ some. absurd (omega arith);
    done = λ q below. absurd (omega arith);
    left = λ q above. refl;
    last = λ q below. absurd (omega arith);
    least = λ q below. absurd (omega arith);
    most = λ q below. absurd (omega arith);
  };
}

-- the book stays
pub book-IsCollectingSo : (c : CollectingTerms) (counts : List ℕ) → IsCollectingSo c counts → c.mark.book ≡ c.start.book
book-IsCollectingSo c counts so =
    elim (cases_lt 0 c.loaded) as (λ _. c.mark.book ≡ c.start.book) [
      | inl some ↦ ap (λ (t : Knowledge). t.book) (so.so_far.loaded some).same
      | inr none ↦ ap (λ (t : Knowledge). t.book) (so.so_far.start (omega arith))
    ]

pub IsCollectingSo-turn : (b : BookTerms) (c : CollectingTerms) (counts : List ℕ) (w : Knowledge) (n : ℕ) → c.mark.book ≡ b → c.loaded < b.processes
    → IsCollectingSo c counts → LoadsLength b c.mark w c.loaded n → IsCollectingSo (collecting_after c w) (set counts c.loaded n)
IsCollectingSo-turn b c counts w n book left so told =
    let same : b ≡ c.start.book = sym book ∙ book-IsCollectingSo c counts so in
    let within : c.loaded < c.start.book.processes = omega (arith, left, ap (λ (t : BookTerms). t.processes) same) in
    record {
      part = so.part;
      within = omega (arith, within);
      so_far = IsCollecting-load c.start.book c.start c.mark w counts c.loaded n so.part within so.so_far
          (subst (λ (t : BookTerms). LoadsLength t c.mark w c.loaded n) same told);
    }

-- after the last turn
pub IsCollect-IsCollectingSo : (b : BookTerms) (c : CollectingTerms) (counts : List ℕ) → c.mark.book ≡ b → 0 < b.processes → c.loaded ≡ b.processes
    → IsCollectingSo c counts → IsCollect b c.start c.mark × (counts ≡ collect_of c.mark)
IsCollect-IsCollectingSo b c counts book some all so =
    let same : c.start.book ≡ b = sym (book-IsCollectingSo c counts so) ∙ book in
    let whole : IsCollecting b c.start c.mark counts b.processes =
    subst (λ k. IsCollecting b c.start c.mark counts k) all (subst (λ (t : BookTerms). IsCollecting t c.start c.mark counts c.loaded) same so.so_far) in
    (IsCollect-IsCollecting b c.start c.mark counts some whole, collect_of-IsCollecting b c.start c.mark counts some whole)

-- the number that was loaded is the last of its process
pub LoadsLengthOf-LoadsLength : (b : BookTerms) (v w : Knowledge) (p n : ℕ) → 0 < length v.parts → p < b.processes → LoadsLength b v w p n
    → LoadsLengthOf b v w p
LoadsLengthOf-LoadsLength b v w p n part within told =
    subst (LoadsLength b v w p) (sym (ap (λ (l : Loads). l.last) (loads_of-same b v w p n part within told))) told

-- a seat that learns what an overview has, and then loads a length, has loaded that length just so
pub LoadsLength-LearnsOverview : (b : BookTerms) (v u w : Knowledge) (seen : List Publication) (p n : ℕ) → LearnsOverview b v seen u → LoadsLength b u w p n
    → LoadsLength b v w p n
LoadsLength-LearnsOverview b v u w seen p n learned told =
    let here = subst (λ (k : Knowledge). LoadsLength b k w p n) learned.same told in
    record {
      same = here.same;
      lengths = here.lengths;
      more = IsPrefix-trans v.seen u.seen w.seen learned.more told.more;
      counted = here.counted;
      own = here.own;
      history = here.history;
      agrees = here.agrees;
    }
