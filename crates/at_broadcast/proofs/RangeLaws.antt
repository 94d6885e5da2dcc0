-- Sums over the numbers of a range, and over the first elements of a list.
use Rattle.std.proofs.Common.{◌≡◌, ◌≢◌, ℕ, zero, suc, ◌+◌, ◌<◌, ◌≤◌, List, [], ◌∷◌, get_or, take, Option, None, refl, ap, sym, ◌∙◌, inl, inr, arith}
use Rattle.at_broadcast.proofs.Prelude.{range_with_len, sum_by, cases_eq, sum_by-cons}

-- equal terms
pub range-same : (f g : ℕ → ℕ) (a n : ℕ) → ((i : ℕ) → a ≤ i → i < a + n → f i ≡ g i) → sum_by f (range_with_len a n) ≡ sum_by g (range_with_len a n)
range-same f g a zero same = refl
range-same f g a (suc n) same =
    let here = same a (omega arith) (omega arith) in
    let rest = range-same f g (a + 1) n (λ i low high. same i (omega arith) (omega arith)) in
    omega (arith, here, rest, sum_by-cons f a (range_with_len (a + 1) n), sum_by-cons g a (range_with_len (a + 1) n))

-- larger terms
pub range-le : (f g : ℕ → ℕ) (a n : ℕ) → ((i : ℕ) → a ≤ i → i < a + n → f i ≤ g i) → sum_by f (range_with_len a n) ≤ sum_by g (range_with_len a n)
range-le f g a zero less = omega arith
range-le f g a (suc n) less =
    let here = less a (omega arith) (omega arith) in
    let rest = range-le f g (a + 1) n (λ i low high. less i (omega arith) (omega arith)) in
    omega (arith, here, rest, sum_by-cons f a (range_with_len (a + 1) n), sum_by-cons g a (range_with_len (a + 1) n))

-- terms that are sums
pub range-sum : (f g h : ℕ → ℕ) (a n : ℕ) → ((i : ℕ) → a ≤ i → i < a + n → f i + g i ≡ h i)
    → sum_by f (range_with_len a n) + sum_by g (range_with_len a n) ≡ sum_by h (range_with_len a n)
range-sum f g h a zero same = refl
range-sum f g h a (suc n) same =
    let here = same a (omega arith) (omega arith) in
    let rest = range-sum f g h (a + 1) n (λ i low high. same i (omega arith) (omega arith)) in
    omega (
      arith,
      here,
      rest,
      sum_by-cons f a (range_with_len (a + 1) n),
      sum_by-cons g a (range_with_len (a + 1) n),
      sum_by-cons h a (range_with_len (a + 1) n),
    )

-- one term that is larger
pub range-one : (f g : ℕ → ℕ) (a n p more : ℕ) → a ≤ p → p < a + n → g p ≡ f p + more → ((i : ℕ) → i ≢ p → g i ≡ f i)
    → sum_by g (range_with_len a n) ≡ sum_by f (range_with_len a n) + more
range-one f g a zero p more low high here others = absurd (omega arith)
range-one f g a (suc n) p more low high here others =
    elim (cases_eq a p) as (λ _. sum_by g (range_with_len a (suc n)) ≡ sum_by f (range_with_len a (suc n)) + more) [
      | inl same ↦
          let first : g a ≡ f a + more = ap g same ∙ (here ∙ ap (λ i. f i + more) (sym same)) in
          let rest = range-same g f (a + 1) n (λ i above below. others i (λ e. omega arith)) in
          omega (arith, first, rest, sum_by-cons f a (range_with_len (a + 1) n), sum_by-cons g a (range_with_len (a + 1) n))
      | inr apart ↦
          let first = others a apart in
          let rest = range-one f g (a + 1) n p more (omega (arith, apart, low)) (omega arith) here others in
          omega (arith, first, rest, sum_by-cons f a (range_with_len (a + 1) n), sum_by-cons g a (range_with_len (a + 1) n))
    ]

-- one term more
pub range-more : (f : ℕ → ℕ) (a n : ℕ) → sum_by f (range_with_len a (suc n)) ≡ sum_by f (range_with_len a n) + f (a + n)
range-more f a zero =
    let same : a + 0 ≡ a = omega arith in
    omega (arith, sum_by-cons f a [], ap f same)
range-more f a (suc n) =
    let same : a + 1 + n ≡ a + suc n = omega arith in
    omega (arith, range-more f (a + 1) n, ap f same, sum_by-cons f a (range_with_len (a + 1) (suc n)), sum_by-cons f a (range_with_len (a + 1) n))

-- one element more of a list, where what isn't there weighs nothing
pub sum_by-take_more : {X : Type 0} (f : Option X → ℕ) (list : List (Option X)) (i : ℕ) → f None ≡ 0
    → sum_by f (take (suc i) list) ≡ sum_by f (take i list) + f (get_or list i None)
sum_by-take_more f [] zero none = omega (arith, none)
sum_by-take_more f [] (suc i) none = omega (arith, none)
sum_by-take_more f (x ∷ list) zero none = omega (arith, sum_by-cons f x [])
sum_by-take_more f (x ∷ list) (suc i) none =
    omega (arith, sum_by-take_more f list i none, sum_by-cons f x (take (suc i) list), sum_by-cons f x (take i list))

-- more elements weigh no less
pub sum_by-take_le : {X : Type 0} (f : Option X → ℕ) (list : List (Option X)) (i j : ℕ) → f None ≡ 0 → i ≤ j
    → sum_by f (take i list) ≤ sum_by f (take j list)
sum_by-take_le f list i zero none below =
    let same : i ≡ 0 = omega arith in
    omega (arith, ap (λ k. sum_by f (take k list)) same)
sum_by-take_le f list i (suc j) none below =
    elim (cases_eq i (suc j)) as (λ _. sum_by f (take i list) ≤ sum_by f (take (suc j) list)) [
      | inl same ↦ omega (arith, ap (λ k. sum_by f (take k list)) same)
      | inr apart ↦ omega (arith, sum_by-take_more f list j none, sum_by-take_le f list i j none (omega (arith, apart, below)))
    ]

-- elements that weigh nothing
pub sum_by-take_none : {X : Type 0} (f : Option X → ℕ) (list : List (Option X)) (i : ℕ) → f None ≡ 0
    → ((k : ℕ) → k < i → f (get_or list k None) ≡ 0) → sum_by f (take i list) ≡ 0
sum_by-take_none f list zero none all = refl
sum_by-take_none f list (suc i) none all =
    omega (arith, sum_by-take_more f list i none, sum_by-take_none f list i none (λ k below. all k (omega arith)), all i (omega arith))
