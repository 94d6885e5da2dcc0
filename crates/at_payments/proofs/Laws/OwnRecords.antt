-- The own records of a process in a list that begins with another.
use Rattle.std.proofs.Common.{◌≡◌, ℕ, ◌<◌, ◌≤◌, ◌==◌, ◌&&◌, cond, List, [], ◌∷◌, length, filter, take, refl, sym, ap, ◌∙◌, arith, inl, inr}
use Rattle.at_payments.proofs.Prelude.{count_by, cases_Bool, cases_lt, sum_by-cons, position-below, publications_of-take, take-IsPrefix, one_if, is_own, IsPrefix, count_of, no_publication, publications_of, owns_of, Publication, own_position-at, own_position}

-- they are among its publications
owns_of-publications : (p : ℕ) (xs : List Publication) → count_by (λ x. is_own x.entry) (publications_of p xs) ≡ owns_of p xs
unfolding publications_of
owns_of-publications p [] = refl
owns_of-publications p (x ∷ xs) =
    let rest = owns_of-publications p xs in
    let kept : List Publication = filter (λ y. y.process == p) xs in
    let split = sum_by-cons (λ (y : Publication). one_if ((y.process == p) && is_own y.entry)) x xs in
    elim (cases_Bool (x.process == p)) as (λ _. count_by (λ y. is_own y.entry) (cond (x.process == p) (x ∷ kept) kept) ≡ owns_of p (x ∷ xs)) [
      | inl stays ↦
          let both : one_if ((x.process == p) && is_own x.entry) ≡ one_if (is_own x.entry) = ap (λ t. one_if (t && is_own x.entry)) stays in
          ap (λ t. count_by (λ (y : Publication). is_own y.entry) (cond t (x ∷ kept) kept)) stays
          ∙ omega (arith, sum_by-cons (λ (y : Publication). one_if (is_own y.entry)) x kept, split, rest, both)
      | inr goes ↦
          let none : one_if ((x.process == p) && is_own x.entry) ≡ 0 = ap (λ t. one_if (t && is_own x.entry)) goes in
          ap (λ t. count_by (λ (y : Publication). is_own y.entry) (cond t (x ∷ kept) kept)) goes ∙ omega (arith, split, rest, none)
    ]

-- those of the beginning stand first in its log
pub owns_of-IsPrefix-take : (p number : ℕ) (xs ys : List Publication) → IsPrefix xs ys → count_of p xs ≡ number
    → count_by (λ x. is_own x.entry) (take number (publications_of p ys)) ≡ owns_of p xs
owns_of-IsPrefix-take p number xs ys before counted =
    let begins : take (length xs) ys ≡ xs = take-IsPrefix xs ys before in
    let log : publications_of p xs ≡ take number (publications_of p ys) =
    sym (ap (publications_of p) begins)
    ∙ (publications_of-take p (length xs) ys
    ∙ ap (λ k. take k (publications_of p ys)) (ap (count_of p) begins ∙ counted)) in
    sym (ap (count_by (λ (x : Publication). is_own x.entry)) log) ∙ owns_of-publications p xs

-- a record that the beginning hasn't stands after it
pub own_position-IsPrefix : (p number : ℕ) (xs ys : List Publication) → IsPrefix xs ys → count_of p xs ≡ number → number < count_of p ys
    → length xs ≤ own_position p number ys
own_position-IsPrefix p number xs ys before counted within =
    let at = own_position-at p number ys within in
    elim (cases_lt (own_position p number ys) (length xs)) as (λ _. length xs ≤ own_position p number ys) [
      | inl below ↦
          absurd (omega (
            arith,
            at.before,
            counted,
            position-below p (own_position p number ys) (length xs) ys no_publication at.within at.own below,
            ap (count_of p) (take-IsPrefix xs ys before),
          ))
      | inr above ↦ above
    ]
