-- Distinct numbers below a bound, of which nothing here is about ledgers.
use Rattle.std.proofs.Common.{◌≡◌, ◌≢◌, ℕ, ◌+◌, ◌<◌, ◌≤◌, ◌==◌, Bool, cond, eqb, true, length, map, sym, ap, ◌∙◌, arith, inl, inr}
use Rattle.at_history.proofs.Prelude.{cases_eq, eq-eqb, eqb-true, ne_eqb, Decides-eqb, Any-from_list_any, get_or-map-range_with_len, length-map-range_with_len, IsDistinct-from_AllPairs, length-le_from_distinct_below, list_any, range_with_len}

-- as many different numbers below a bound are at most the bound
pub distinct-le : (f : ℕ → ℕ) (n k : ℕ) → ((i : ℕ) → i < n → f i < k) → ((i j : ℕ) → i < j → j < n → f i ≢ f j) → n ≤ k
distinct-le f n k below apart =
    let xs = map f (range_with_len 0 n) in
    let long : length xs ≡ n = length-map-range_with_len f 0 n in
    let distinct = IsDistinct-from_AllPairs Decides-eqb xs (λ i j d less within same.
    apart i j less (omega (arith, within, long))
    (sym (get_or-map-range_with_len f 0 n i i d (omega (arith, less, within, long)) (omega arith))
    ∙ (same ∙ get_or-map-range_with_len f 0 n j j d (omega (arith, within, long)) (omega arith)))) in
    let each : (q : ℕ) → list_any (eqb q) xs ≡ true → q < k = λ q has.
    let found = Any-from_list_any (eqb q) xs has in
    let inside : found.0 < n = omega (arith, found.2, long) in
    let here : f found.0 ≡ q = sym (get_or-map-range_with_len f 0 n found.0 found.0 found.1 inside (omega arith)) ∙ (found.3 ∙ sym (eqb-true q found.1 found.4)) in
    omega (arith, here, below found.0 inside) in
    omega (arith, long, length-le_from_distinct_below xs k distinct each)

-- and so are as many of them and one that is none of these
pub distinct_others-le : (f : ℕ → ℕ) (x n k : ℕ) → x < k → ((i : ℕ) → i < n → f i < k) → ((i j : ℕ) → i < j → j < n → f i ≢ f j)
    → ((i : ℕ) → i < n → f i ≢ x) → n + 1 ≤ k
distinct_others-le f x n k own below apart others =
    let g : ℕ → ℕ = λ i. cond (i == n) x (f i) in
    let last : (i : ℕ) → i ≡ n → g i ≡ x = λ i same. ap (λ (t : Bool). cond t x (f i)) (eq-eqb i n same) in
    let early : (i : ℕ) → i < n → g i ≡ f i = λ i less. ap (λ (t : Bool). cond t x (f i)) (ne_eqb i n (λ same. omega arith)) in
    distinct-le g (n + 1) k
    (λ i inside. elim (cases_eq i n) as (λ _. g i < k) [
      | inl same ↦ omega (arith, last i same, own)
      | inr other ↦ let less : i < n = omega arith in omega (arith, early i less, below i less)
    ])
    (λ i j less inside same.
    let first : i < n = omega arith in
    elim (cases_eq j n) as (λ _. ⊥) [
      | inl end ↦ others i first (sym (early i first) ∙ (same ∙ last j end))
      | inr other ↦
          let second : j < n = omega arith in
          apart i j less second (sym (early i first) ∙ (same ∙ early j second))
    ])
