-- How many counts have not moved since the first collect.
use Rattle.std.proofs.Common.{◌≡◌, ◌≢◌, ℕ, ◌+◌, ◌<◌, ◌≤◌, zero, suc, cond, List, [], ◌∷◌, length, get_or, refl, ap, arith, inl, inr}
use Rattle.at_snapshot.proofs.Prelude.{cases_eq, eq-eqb, ne_eqb, one_if_same, unmoved}

one_if_same-equal : (f l : ℕ) → f ≡ l → one_if_same f l ≡ 1
unfolding one_if_same
one_if_same-equal f l e = ap (λ c. cond c 1 0) (eq-eqb f l e)

one_if_same-apart : (f l : ℕ) → f ≢ l → one_if_same f l ≡ 0
unfolding one_if_same
one_if_same-apart f l e = ap (λ c. cond c 1 0) (ne_eqb f l e)

pub unmoved-same : (fs : List ℕ) → unmoved fs fs ≡ length fs
unfolding unmoved
unmoved-same [] = refl
unmoved-same (f ∷ fs) = omega (arith, one_if_same-equal f f refl, unmoved-same fs)

-- a position with the same number counts
pub unmoved-some : (fs ls : List ℕ) (p : ℕ) → length ls ≡ length fs → p < length fs → get_or fs p 0 ≡ get_or ls p 0 → 1 ≤ unmoved fs ls
unfolding unmoved
unmoved-some [] ls p sized within same = absurd (omega arith)
unmoved-some (f ∷ fs) [] p sized within same = absurd (omega arith)
unmoved-some (f ∷ fs) (l ∷ ls) zero sized within same = omega (arith, one_if_same-equal f l same)
unmoved-some (f ∷ fs) (l ∷ ls) (suc p) sized within same = omega (arith, unmoved-some fs ls p (omega arith) (omega arith) same)

-- what has moved, and rises, stays moved
one_if_same-le : (f l m : ℕ) → f ≤ l → l ≤ m → one_if_same f m ≤ one_if_same f l
one_if_same-le f l m risen rises =
    elim (cases_eq f m) as (λ _. one_if_same f m ≤ one_if_same f l) [
      | inl same ↦ omega (arith, one_if_same-equal f m same, one_if_same-equal f l (omega arith))
      | inr apart ↦ omega (arith, one_if_same-apart f m apart)
    ]

pub unmoved-le : (fs ls ms : List ℕ) → length ls ≡ length fs → length ms ≡ length fs
    → ((p : ℕ) → p < length fs → get_or fs p 0 ≤ get_or ls p 0) → ((p : ℕ) → p < length fs → get_or ls p 0 ≤ get_or ms p 0)
    → unmoved fs ms ≤ unmoved fs ls
unfolding unmoved
unmoved-le [] ls ms sized sized' risen rises = omega arith
unmoved-le (f ∷ fs) [] ms sized sized' risen rises = absurd (omega arith)
unmoved-le (f ∷ fs) (l ∷ ls) [] sized sized' risen rises = absurd (omega arith)
unmoved-le (f ∷ fs) (l ∷ ls) (m ∷ ms) sized sized' risen rises =
    omega (
      arith,
      one_if_same-le f l m (risen 0 (omega arith)) (rises 0 (omega arith)),
      unmoved-le fs ls ms (omega arith) (omega arith) (λ p within. risen (suc p) (omega arith)) (λ p within. rises (suc p) (omega arith)),
    )

-- where counts rise, by one in all at most, and not all stay, one more has moved
pub unmoved-falls : (fs ls ms : List ℕ) → length ls ≡ length fs → length ms ≡ length fs
    → ((p : ℕ) → p < length fs → get_or fs p 0 ≤ get_or ls p 0) → ((p : ℕ) → p < length fs → get_or ls p 0 ≤ get_or ms p 0)
    → ((p : ℕ) → p < length fs → get_or ms p 0 ≤ get_or fs p 0 + 1) → ls ≢ ms → unmoved fs ms < unmoved fs ls
unfolding unmoved
unmoved-falls [] [] [] sized sized' risen rises close apart = absurd (apart refl)
unmoved-falls [] (l ∷ ls) ms sized sized' risen rises close apart = absurd (omega arith)
unmoved-falls [] [] (m ∷ ms) sized sized' risen rises close apart = absurd (omega arith)
unmoved-falls (f ∷ fs) [] ms sized sized' risen rises close apart = absurd (omega arith)
unmoved-falls (f ∷ fs) (l ∷ ls) [] sized sized' risen rises close apart = absurd (omega arith)
unmoved-falls (f ∷ fs) (l ∷ ls) (m ∷ ms) sized sized' risen rises close apart =
    let risen' : (p : ℕ) → p < length fs → get_or fs p 0 ≤ get_or ls p 0 = λ p within. risen (suc p) (omega arith) in
    let rises' : (p : ℕ) → p < length fs → get_or ls p 0 ≤ get_or ms p 0 = λ p within. rises (suc p) (omega arith) in
    elim (cases_eq l m) as (λ _. one_if_same f m + unmoved fs ms < one_if_same f l + unmoved fs ls) [
      | inl same ↦
          omega (
            arith,
            ap (one_if_same f) same,
            unmoved-falls fs ls ms (omega arith) (omega arith) risen' rises' (λ p within. close (suc p) (omega arith)) (λ e. apart (λ t. same t ∷ e t)),
          )
      | inr moved ↦
          let low = risen 0 (omega arith) in
          let up = rises 0 (omega arith) in
          let near = close 0 (omega arith) in
          omega (
            arith,
            one_if_same-equal f l (omega arith),
            one_if_same-apart f m (λ e. omega arith),
            unmoved-le fs ls ms (omega arith) (omega arith) risen' rises',
          )
    ]
