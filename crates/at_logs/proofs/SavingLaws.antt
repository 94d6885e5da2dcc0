-- What is written fits its bytes.
use Rattle.std.proofs.Common.{◌≡◌, ℕ, ◌+◌, ◌<◌, List, length, get_or, sym, subst, inl, inr, arith}
use Rattle.at_logs.proofs.Prelude.{cases_lt, get_or_read}

-- so do the first ones
abbrev pub FitFirst : {X : Type 0} → (X → Type 0) → List X → ℕ → Type 0
FitFirst {X} P xs n = (k : ℕ) (d : X) → k < n → P (get_or xs k d)

-- one more does
pub fits_more : {X : Type 0} (P : X → Type 0) (xs : List X) (i : ℕ) (x : X) → i < length xs → x ≡ get_or xs i x → P x → FitFirst P xs i → FitFirst P xs (i + 1)
fits_more P xs i x inside here is before k d within =
    elim (cases_lt k i) as (λ _. P (get_or xs k d)) [
      | inl low ↦ before k d low
      | inr high ↦
          let last : k ≡ i = omega (arith, within, high) in
          subst (λ j. P (get_or xs j d)) (sym last) (subst P (get_or_read xs i x inside here d) is)
    ]
