-- Collects: one load after another.
use Rattle.std.proofs.Common.{◌≡◌, ◌≢◌, ℕ, ◌+◌, ◌<◌, ◌≤◌, List, length, get_or, set, sym, ap, subst, ◌∙◌, arith, inl, inr}
use Rattle.at_snapshot.proofs.Prelude.{cases_eq, cases_lt, ext_get_or, get_or-set_other, get_or-set_same, length-set, length-map, get_or-map, BookTerms, IsPrefix-count_of, Loads, Knowledge, count_of, LoadsLength, loads_of, own_part, HasLoaded, IsCollect, IsCollecting, collect_of}
use Rattle.at_snapshot.proofs.Laws.Loads.{HasLoaded-LoadsLength, HasLoaded-trans, loads_of-other, loads_of-same, parts-HasLoaded}

-- what stands before a load: as it was, or after loads
pub record IsBefore (b : BookTerms) (v u : Knowledge) : Type 0 where
  pub part : 0 < length u.parts
  pub after : (w : Knowledge) (p n : ℕ) → LoadsLength b u w p n → HasLoaded b v w

pub IsBefore-IsCollecting : (b : BookTerms) (v u : Knowledge) (counts : List ℕ) (p : ℕ) → 0 < length v.parts → IsCollecting b v u counts p → IsBefore b v u
IsBefore-IsCollecting b v u counts p part so_far =
    elim (cases_lt 0 p) as (λ _. IsBefore b v u) [
      | inl begun ↦
          let loaded = so_far.loaded begun in
          let some : 0 < length u.parts = omega (arith, part, parts-HasLoaded b v u loaded) in
          record {
            part = some;
            after = λ w q n told. HasLoaded-trans b v u w part loaded (HasLoaded-LoadsLength b u w q n some told);
          }
      | inr none ↦
          let same : u ≡ v = so_far.start (omega arith) in
          record {
            part = omega (arith, part, ap (λ (t : Knowledge). length t.parts) same);
            after = λ w q n told. HasLoaded-LoadsLength b v w q n part (subst (λ (t : Knowledge). LoadsLength b t w q n) same told);
          }
    ]

pub IsCollecting-load : (b : BookTerms) (v u w : Knowledge) (counts : List ℕ) (p n : ℕ) → 0 < length v.parts → p < b.processes
    → IsCollecting b v u counts p → LoadsLength b u w p n → IsCollecting b v w (set counts p n) (p + 1)
IsCollecting-load b v u w counts p n part within so_far told =
    let before = IsBefore-IsCollecting b v u counts p part so_far in
    let loaded : HasLoaded b v w = before.after w p n told in
    let here : get_or (set counts p n) p 0 ≡ n = get_or-set_same counts p n 0 (omega (arith, so_far.sized, within)) in
    let there : (q : ℕ) → q ≢ p → get_or (set counts p n) q 0 ≡ get_or counts q 0 = λ q apart. get_or-set_other counts p q n 0 apart in
    let now = loads_of-same b u w p n before.part within told in
    let others : (q : ℕ) → q ≢ p → loads_of (own_part w) q ≡ loads_of (own_part u) q = λ q apart. loads_of-other b u w p n q before.part apart told in
    record {
      sized = length-set counts p n ∙ so_far.sized;
      start = λ e. absurd (omega arith);
      loaded = λ some. loaded;
      done = λ q below.
          elim (cases_eq q p) as (λ _. (loads_of (own_part w) q).times ≡ (loads_of (own_part v) q).times + 1) [
            | inl same ↦ subst (λ k. (loads_of (own_part w) k).times ≡ (loads_of (own_part v) k).times + 1) (sym same)
                (ap (λ (l : Loads). l.times) now ∙ ap (λ k. k + 1) (so_far.left p (omega arith)))
            | inr apart ↦ ap (λ (l : Loads). l.times) (others q apart) ∙ so_far.done q (omega arith)
          ];
      left = λ q above.
          let apart : q ≢ p = λ e. omega arith in
          ap (λ (l : Loads). l.times) (others q apart) ∙ so_far.left q (omega arith);
      last = λ q below.
          elim (cases_eq q p) as (λ _. (loads_of (own_part w) q).last ≡ get_or (set counts p n) q 0) [
            | inl same ↦ subst (λ k. (loads_of (own_part w) k).last ≡ get_or (set counts p n) k 0) (sym same)
                (ap (λ (l : Loads). l.last) now ∙ sym here)
            | inr apart ↦ ap (λ (l : Loads). l.last) (others q apart) ∙ (so_far.last q (omega arith) ∙ sym (there q apart))
          ];
      least = λ q below.
          elim (cases_eq q p) as (λ _. count_of q v.seen ≤ get_or (set counts p n) q 0) [
            | inl same ↦ subst (λ k. count_of k v.seen ≤ get_or (set counts p n) k 0) (sym same)
                (omega (arith, here, told.counted, IsPrefix-count_of p v.seen w.seen loaded.more))
            | inr apart ↦ omega (arith, there q apart, so_far.least q (omega arith))
          ];
      most = λ q below.
          elim (cases_eq q p) as (λ _. get_or (set counts p n) q 0 ≤ count_of q w.seen) [
            | inl same ↦ subst (λ k. get_or (set counts p n) k 0 ≤ count_of k w.seen) (sym same) (omega (arith, here, told.counted))
            | inr apart ↦ omega (arith, there q apart, so_far.most q (omega arith), IsPrefix-count_of q u.seen w.seen told.more)
          ];
    }

-- a collect's counts are the numbers last loaded
pub collect_of-IsCollecting : (b : BookTerms) (v w : Knowledge) (counts : List ℕ) → 0 < b.processes → IsCollecting b v w counts b.processes
    → counts ≡ collect_of w
collect_of-IsCollecting b v w counts some whole =
    let loads = (own_part w).loads in
    let lengths : length loads ≡ b.processes = (whole.loaded some).lengths in
    ext_get_or 0 counts (collect_of w) (whole.sized ∙ (sym lengths ∙ sym (length-map loads (λ (l : Loads). l.last))))
    (λ q within.
    let below : q < b.processes = omega (arith, within, whole.sized) in
    sym (get_or-map (λ (l : Loads). l.last) loads q (record { times = 0; last = 0 }) 0 (omega (arith, below, lengths)) ∙ whole.last q below))

pub IsCollect-IsCollecting : (b : BookTerms) (v w : Knowledge) (counts : List ℕ) → 0 < b.processes → IsCollecting b v w counts b.processes → IsCollect b v w
IsCollect-IsCollecting b v w counts some whole =
    let same = collect_of-IsCollecting b v w counts some whole in
    let at : (q : ℕ) → get_or counts q 0 ≡ get_or (collect_of w) q 0 = λ q. ap (λ xs. get_or xs q 0) same in
    record {
      loaded = whole.loaded some;
      times = λ p within. whole.done p within;
      least = λ p within. omega (arith, at p, whole.least p within);
      most = λ p within. omega (arith, at p, whole.most p within);
    }
