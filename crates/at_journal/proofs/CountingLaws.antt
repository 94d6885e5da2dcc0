-- Elements that pass a test, by how many pass before them.
use Rattle.std.proofs.Common.{◌≡◌, ℕ, ◌+◌, ◌-◌, ◌<◌, ◌≤◌, ◌&&◌, suc, Bool, true, false, cond, List, [], ◌∷◌, length, filter, get_or, take, refl, sym, ap, ◌∙◌, arith, inl, inr}
use Rattle.at_journal.proofs.Prelude.{count_by, cases_Bool, cases_eq, cases_lt, take-take, count_by_more_yes, sum_by-cons, sum_by-take-le, one_if}

module _ {X : Type 0} where
  -- the element that passes after so many others
  pub record IsPassing (test : X → Bool) (xs : List X) (k : ℕ) (d : X) : Type 0 where
    pub index : ℕ
    pub within : index < length xs
    pub passes : test (get_or xs index d) ≡ true
    pub before : count_by test (take index xs) ≡ k

  pub IsPassing-from_count : (test : X → Bool) (xs : List X) (k : ℕ) (d : X) → k < count_by test xs → IsPassing test xs k d
  IsPassing-from_count test [] k d some = absurd (omega (arith, some))
  IsPassing-from_count test (x ∷ xs) k d some =
      let split = sum_by-cons (λ y. one_if (test y)) x xs in
      elim (cases_Bool (test x)) as (λ _. IsPassing test (x ∷ xs) k d) [
        | inl passes ↦
            elim (cases_eq k 0) as (λ _. IsPassing test (x ∷ xs) k d) [
              | inl first ↦ record { index = 0; within = omega arith; passes = passes; before = sym first }
              | inr later ↦
                  let rest = IsPassing-from_count test xs (k - 1) d (omega (arith, some, split, ap one_if passes, later)) in
                  record {
                    index = suc rest.index;
                    within = omega (arith, rest.within);
                    passes = rest.passes;
                    before = omega (arith, sum_by-cons (λ y. one_if (test y)) x (take rest.index xs), ap one_if passes, rest.before, later);
                  }
            ]
        | inr fails ↦
            let rest = IsPassing-from_count test xs k d (omega (arith, some, split, ap one_if fails)) in
            record {
              index = suc rest.index;
              within = omega (arith, rest.within);
              passes = rest.passes;
              before = omega (arith, sum_by-cons (λ y. one_if (test y)) x (take rest.index xs), ap one_if fails, rest.before);
            }
      ]

  pub count_by-take_le : (test : X → Bool) (m k : ℕ) (xs : List X) → m ≤ k → count_by test (take m xs) ≤ count_by test (take k xs)
  count_by-take_le test m k xs few =
      omega (arith, ap (count_by test) (take-take m k xs few), sum_by-take-le (λ x. one_if (test x)) (take k xs) m)

  -- an element that passes counts one more behind it
  pub count_by-past : (test : X → Bool) (xs : List X) (j k : ℕ) (d : X) → j < length xs → test (get_or xs j d) ≡ true → j < k
      → count_by test (take j xs) < count_by test (take k xs)
  count_by-past test xs j k d within passes before =
      omega (arith, count_by_more_yes test xs j d within passes, count_by-take_le test (j + 1) k xs (omega (arith, before)))

  -- two that pass after as many others are one
  pub same_passing : (test : X → Bool) (xs : List X) (j k : ℕ) (d : X) → j < length xs → k < length xs → test (get_or xs j d) ≡ true
      → test (get_or xs k d) ≡ true → count_by test (take j xs) ≡ count_by test (take k xs) → j ≡ k
  same_passing test xs j k d one two passes also same =
      elim (cases_lt j k) as (λ _. j ≡ k) [
        | inl below ↦ absurd (omega (arith, same, count_by-past test xs j k d one passes below))
        | inr rest ↦
            elim (cases_lt k j) as (λ _. j ≡ k) [
              | inl above ↦ absurd (omega (arith, same, count_by-past test xs k j d two also above))
              | inr equal ↦ omega (arith, rest, equal)
            ]
      ]

  -- counting by two tests is counting by one what the other keeps
  pub count_by-filter_and : (keep test : X → Bool) (xs : List X) → count_by test (filter keep xs) ≡ count_by (λ x. keep x && test x) xs
  count_by-filter_and keep test [] = refl
  count_by-filter_and keep test (x ∷ xs) =
      let rest = count_by-filter_and keep test xs in
      let kept = filter keep xs in
      let split = sum_by-cons (λ y. one_if (keep y && test y)) x xs in
      elim (cases_Bool (keep x)) as (λ _. count_by test (cond (keep x) (x ∷ kept) kept) ≡ count_by (λ y. keep y && test y) (x ∷ xs)) [
        | inl stays ↦
            let both : one_if (keep x && test x) ≡ one_if (test x) = ap (λ t. one_if (t && test x)) stays in
            ap (λ t. count_by test (cond t (x ∷ kept) kept)) stays
            ∙ omega (arith, sum_by-cons (λ y. one_if (test y)) x kept, split, rest, both)
        | inr goes ↦
            let none : one_if (keep x && test x) ≡ one_if false = ap (λ t. one_if (t && test x)) goes in
            ap (λ t. count_by test (cond t (x ∷ kept) kept)) goes ∙ omega (arith, split, rest, none)
      ]
