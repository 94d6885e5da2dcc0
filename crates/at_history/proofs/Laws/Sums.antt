-- Lists and sums of numbers, of which nothing here is about ledgers.
use Rattle.std.proofs.Common.{◌≡◌, ℕ, ◌+◌, ◌*◌, ◌<◌, ◌≤◌, zero, suc, List, [], ◌∷◌, refl, ap, arith, get_or, replicate, inl, inr, subst}
use Rattle.at_history.proofs.Prelude.{cases_lt, get_or-replicate, get_or_past, length-replicate, sum_by-cons, mul-le, sum_by, range_with_len, All, Contains}

pub sum_by-add : {X : Type 0} (f g : X → ℕ) (xs : List X) → sum_by (λ x. f x + g x) xs ≡ sum_by f xs + sum_by g xs
sum_by-add f g [] = refl
sum_by-add f g (x ∷ xs) =
    omega (arith, sum_by-cons (λ y. f y + g y) x xs, sum_by-cons f x xs, sum_by-cons g x xs, sum_by-add f g xs)

pub sum_by-mul : {X : Type 0} (f : X → ℕ) (k : ℕ) (xs : List X) → sum_by (λ x. f x * k) xs ≡ sum_by f xs * k
sum_by-mul f k [] = omega arith
sum_by-mul f k (x ∷ xs) =
    omega (arith, sum_by-cons (λ y. f y * k) x xs, ap (λ n. n * k) (sum_by-cons f x xs), sum_by-mul f k xs)

pub mul-one-le : (k q : ℕ) → 1 ≤ q → k ≤ k * q
mul-one-le k q some = omega (arith, mul-le k 1 k q (omega arith) some)

pub sum_by-range_const : (k a n : ℕ) → sum_by (λ (p : ℕ). k) (range_with_len a n) ≡ n * k
sum_by-range_const k a zero = omega arith
sum_by-range_const k a (suc n) =
    omega (arith, sum_by-cons (λ (p : ℕ). k) a (range_with_len (a + 1) n), sum_by-range_const k (a + 1) n)

-- a sum over numbers in a row is larger where its terms are
pub sum_by-range-le : (f g : ℕ → ℕ) (a n : ℕ) → ((p : ℕ) → p < a + n → f p ≤ g p) → sum_by f (range_with_len a n) ≤ sum_by g (range_with_len a n)
sum_by-range-le f g a zero less = omega arith
sum_by-range-le f g a (suc n) less =
    omega (
      arith,
      sum_by-cons f a (range_with_len (a + 1) n),
      sum_by-cons g a (range_with_len (a + 1) n),
      less a (omega arith),
      sum_by-range-le f g (a + 1) n (λ p below. less p (omega arith)),
    )

pub get_or-zeros : (n i : ℕ) → get_or (replicate n zero) i zero ≡ zero
get_or-zeros n i =
    elim (cases_lt i n) as (λ _. get_or (replicate n zero) i zero ≡ zero) [
      | inl below ↦ get_or-replicate n i zero zero below
      | inr above ↦ get_or_past (replicate n zero) i zero (omega (arith, length-replicate n zero))
    ]

-- what holds of all elements holds of one
pub All-Contains : {X : Type 0} (P : X → Type 0) (xs : List X) (x : X) → All P xs → Contains xs x → P x
All-Contains P xs x all (k, within, same) = subst P same (all k x within)
