-- The keys of a process's lines, and which of its lines have a key.
use Rattle.std.proofs.Common.{◌≡◌, ℕ, ◌+◌, ◌-◌, ◌<◌, ◌≤◌, ◌==◌, zero, suc, Bool, true, false, cond, ◌∷◌, get_or, filter, sym, ap, subst, ◌∙◌, arith, inl, inr}
use Rattle.std.specs.Prelude.{nat_lt}
use Rattle.at_journal.proofs.Prelude.{cases_lt, cases_eq, eq-eqb, lt-ltb, le-ltb, ne_eqb, get_or-range_with_len, length-range_with_len, range_with_len, filter-none}

-- how many numbers from 0 have a value below a limit, where values don't fall
pub reach : (ℕ → ℕ) → ℕ → ℕ → ℕ
reach f limit zero = 0
reach f limit (suc n) = cond (nat_lt (f n) limit) (suc n) (reach f limit n)

module _ (f : ℕ → ℕ) (limit : ℕ) where
  pub reach-le : (n : ℕ) → reach f limit n ≤ n
  unfolding reach
  reach-le zero = omega arith
  reach-le (suc n) =
      elim (cases_lt (f n) limit) as (λ _. cond (nat_lt (f n) limit) (suc n) (reach f limit n) ≤ suc n) [
        | inl below ↦ omega (arith, ap (λ t. cond t (suc n) (reach f limit n)) (lt-ltb (f n) limit below))
        | inr above ↦ omega (arith, ap (λ t. cond t (suc n) (reach f limit n)) (le-ltb (f n) limit above), reach-le n)
      ]

  pub reach-below : (n : ℕ) → ((i j : ℕ) → i ≤ j → j < n → f i ≤ f j) → (i : ℕ) → i < reach f limit n → f i < limit
  unfolding reach
  reach-below zero sorted i within = absurd (omega (arith, within))
  reach-below (suc n) sorted i within =
      elim (cases_lt (f n) limit) as (λ _. f i < limit) [
        | inl below ↦ omega (arith, sorted i n (omega (arith, within, ap (λ t. cond t (suc n) (reach f limit n)) (lt-ltb (f n) limit below))) (omega arith), below)
        | inr above ↦ reach-below n (λ a b before inside. sorted a b before (omega arith)) i
            (omega (arith, within, ap (λ t. cond t (suc n) (reach f limit n)) (le-ltb (f n) limit above)))
      ]

  pub reach-above : (n : ℕ) → ((i j : ℕ) → i ≤ j → j < n → f i ≤ f j) → (i : ℕ) → reach f limit n ≤ i → i < n → limit ≤ f i
  unfolding reach
  reach-above zero sorted i beyond within = absurd (omega (arith, within))
  reach-above (suc n) sorted i beyond within =
      elim (cases_lt (f n) limit) as (λ _. limit ≤ f i) [
        | inl below ↦ absurd (omega (arith, beyond, within, ap (λ t. cond t (suc n) (reach f limit n)) (lt-ltb (f n) limit below)))
        | inr above ↦
            elim (cases_eq i n) as (λ _. limit ≤ f i) [
              | inl last ↦ subst (λ k. limit ≤ f k) (sym last) above
              | inr before ↦ reach-above n (λ a b first inside. sorted a b first (omega arith)) i
                  (omega (arith, beyond, ap (λ t. cond t (suc n) (reach f limit n)) (le-ltb (f n) limit above))) (omega (arith, within, before))
            ]
      ]

  -- it is the number that parts the values below the limit from the others
  pub reach-is : (n m : ℕ) → m ≤ n → ((i : ℕ) → i < m → f i < limit) → ((i : ℕ) → m ≤ i → i < n → limit ≤ f i) → reach f limit n ≡ m
  unfolding reach
  reach-is zero m few below above = omega (arith, few)
  reach-is (suc n) m few below above =
      elim (cases_lt (f n) limit) as (λ _. cond (nat_lt (f n) limit) (suc n) (reach f limit n) ≡ m) [
        | inl less ↦
            elim (cases_lt n m) as (λ _. cond (nat_lt (f n) limit) (suc n) (reach f limit n) ≡ m) [
              | inl last ↦ omega (arith, ap (λ t. cond t (suc n) (reach f limit n)) (lt-ltb (f n) limit less), last, few)
              | inr beyond ↦ absurd (omega (arith, above n beyond (omega arith), less))
            ]
        | inr more ↦
            elim (cases_lt n m) as (λ _. cond (nat_lt (f n) limit) (suc n) (reach f limit n) ≡ m) [
              | inl last ↦ absurd (omega (arith, below n last, more))
              | inr beyond ↦
                  ap (λ t. cond t (suc n) (reach f limit n)) (le-ltb (f n) limit more)
                  ∙ reach-is n m beyond below (λ i from within. above i from (omega (arith, within)))
            ]
      ]

-- the numbers between two limits, where the test passes at just these
filter-between : (test : ℕ → Bool) (a n from to : ℕ) → ((i : ℕ) → a ≤ i → i < from → test i ≡ false) → ((i : ℕ) → from ≤ i → i < to → test i ≡ true)
    → ((i : ℕ) → to ≤ i → i < a + n → test i ≡ false) → a ≤ from → from ≤ to → to ≤ a + n
    → filter test (range_with_len a n) ≡ range_with_len from (to - from)
filter-between test a zero from to before between after low mid high =
    let none : to - from ≡ 0 = omega arith in
    ap (range_with_len from) (sym none)
filter-between test a (suc n) from to before between after low mid high =
    let rest = filter test (range_with_len (a + 1) n) in
    elim (cases_lt a from) as (λ _. cond (test a) (a ∷ rest) rest ≡ range_with_len from (to - from)) [
      | inl early ↦
          ap (λ t. cond t (a ∷ rest) rest) (before a (omega arith) early)
          ∙ filter-between test (a + 1) n from to (λ i first. before i (omega arith)) between (λ i beyond within. after i beyond (omega arith)) (omega arith) mid (omega arith)
      | inr here ↦
          let at : a ≡ from = omega arith in
          elim (cases_lt from to) as (λ _. cond (test a) (a ∷ rest) rest ≡ range_with_len from (to - from)) [
            | inl some ↦
                let more : to - from ≡ suc (to - (from + 1)) = omega arith in
                let next = filter-between test (a + 1) n (from + 1) to (λ i first less. absurd (omega (arith, first, less, at)))
                (λ i beyond within. between i (omega arith) within) (λ i beyond within. after i beyond (omega arith)) (omega arith) (omega arith) (omega arith) in
                ap (λ t. cond t (a ∷ rest) rest) (between a here (omega arith))
                ∙ (ap (λ ys. a ∷ ys) next
                ∙ ((λ t. at t ∷ range_with_len (from + 1) (to - (from + 1)))
                ∙ ap (range_with_len from) (sym more)))
            | inr none ↦
                let nothing : to - from ≡ 0 = omega arith in
                filter-none test (range_with_len a (suc n)) (λ i d within.
                let is : get_or (range_with_len a (suc n)) i d ≡ a + i = get_or-range_with_len a (suc n) i d (omega (arith, within, length-range_with_len a (suc n))) in
                ap test is ∙ after (a + i) (omega arith) (omega (arith, within, length-range_with_len a (suc n))))
                ∙ ap (range_with_len from) (sym nothing)
          ]
    ]

pub reach_mono : (f : ℕ → ℕ) (key n : ℕ) → ((i j : ℕ) → i ≤ j → j < n → f i ≤ f j) → reach f key n ≤ reach f (key + 1) n
reach_mono f key n sorted =
    elim (cases_lt (reach f (key + 1) n) (reach f key n)) as (λ _. reach f key n ≤ reach f (key + 1) n) [
      | inl less ↦
          let at = reach f (key + 1) n in
          absurd (omega (arith, reach-below f key n sorted at less, reach-above f (key + 1) n sorted at (omega arith) (omega (arith, less, reach-le f key n))))
      | inr fine ↦ fine
    ]

-- the numbers with a value are those from one reach to the next
pub filter-key : (f : ℕ → ℕ) (key n : ℕ) → ((i j : ℕ) → i ≤ j → j < n → f i ≤ f j)
    → filter (λ i. f i == key) (range_with_len 0 n) ≡ range_with_len (reach f key n) (reach f (key + 1) n - reach f key n)
filter-key f key n sorted =
    filter-between (λ i. f i == key) 0 n (reach f key n) (reach f (key + 1) n)
    (λ i first before. ne_eqb (f i) key (λ e. omega (arith, e, reach-below f key n sorted i before)))
    (λ i from to. eq-eqb (f i) key (omega (arith, reach-below f (key + 1) n sorted i to, reach-above f key n sorted i from (omega (arith, to, reach-le f (key + 1) n)))))
    (λ i from within. ne_eqb (f i) key (λ e. omega (arith, e, reach-above f (key + 1) n sorted i from (omega (arith, within)))))
    (omega arith) (reach_mono f key n sorted) (omega (arith, reach-le f (key + 1) n))
