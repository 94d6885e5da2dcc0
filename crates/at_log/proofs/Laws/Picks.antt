-- Elements that a list picks from another: where each of them stands in both.
use Rattle.std.proofs.Common.{◌≡◌, ℕ, ◌+◌, ◌<◌, ◌≤◌, ◌⊎◌, zero, suc, Bool, true, false, cond, List, [], ◌∷◌, length, filter, get_or, take, refl, sym, ap, subst, ◌∙◌, arith, inl, inr}
use Rattle.std.specs.Prelude.{Option, Some, None}
use Rattle.at_log.proofs.Prelude.{cases_Bool, sum_by-cons, cons_option, count_by, filter_map, is_some, one_if}

cases_Option : {Y : Type 0} (o : Option Y) → (o ≡ None) ⊎ ((y : Y) × (o ≡ Some y))
cases_Option None = inl refl
cases_Option (Some y) = inr (y, refl)

module _ {X : Type 0} where
  count_by-cons_yes : (test : X → Bool) (x : X) (xs : List X) → test x ≡ true → count_by test (x ∷ xs) ≡ count_by test xs + 1
  count_by-cons_yes test x xs is = omega (arith, sum_by-cons (λ y. one_if (test y)) x xs, ap one_if is)

  count_by-cons_no : (test : X → Bool) (x : X) (xs : List X) → test x ≡ false → count_by test (x ∷ xs) ≡ count_by test xs
  count_by-cons_no test x xs is = omega (arith, sum_by-cons (λ y. one_if (test y)) x xs, ap one_if is)

module _ {X Y : Type 0} where
  -- whether an element is picked
  abbrev pub picks : (X → Option Y) → X → Bool
  picks pick x = is_some (pick x)

  -- the number of picked elements before a position is where the one at that position stands among them
  pub filter_map-at : (pick : X → Option Y) (xs : List X) (j : ℕ) (d : X) (y e : Y) → j < length xs → pick (get_or xs j d) ≡ Some y
      → (count_by (picks pick) (take j xs) < length (filter_map pick xs)) × (get_or (filter_map pick xs) (count_by (picks pick) (take j xs)) e ≡ y)
  filter_map-at pick [] j d y e within picked = absurd (omega arith)
  filter_map-at pick (x ∷ xs) zero d y e within picked =
      subst (λ o. (0 < length (cons_option o (filter_map pick xs))) × (get_or (cons_option o (filter_map pick xs)) 0 e ≡ y)) (sym picked)
      (omega arith, refl)
  filter_map-at pick (x ∷ xs) (suc j) d y e within picked =
      let rest = filter_map-at pick xs j d y e (omega arith) picked in
      let n = count_by (picks pick) (take j xs) in
      let kept = filter_map pick xs in
      let Goal : Option Y → ℕ → Type 0 = λ o m. (m < length (cons_option o kept)) × (get_or (cons_option o kept) m e ≡ y) in
      elim (cases_Option (pick x)) as (λ _. Goal (pick x) (count_by (picks pick) (x ∷ take j xs))) [
        | inl dropped ↦
            let same : count_by (picks pick) (x ∷ take j xs) ≡ n = count_by-cons_no (picks pick) x (take j xs) (ap is_some dropped) in
            subst (λ m. Goal (pick x) m) (sym same) (subst (λ o. Goal o n) (sym dropped) rest)
        | inr found ↦
            let same : count_by (picks pick) (x ∷ take j xs) ≡ suc n = omega (arith, count_by-cons_yes (picks pick) x (take j xs) (ap is_some found.1)) in
            subst (λ m. Goal (pick x) m) (sym same) (subst (λ o. Goal o (suc n)) (sym found.1) (omega (arith, rest.0), rest.1))
      ]

  -- where a picked element of a list stands in it
  abbrev pub IsFrom : (X → Option Y) → List X → ℕ → X → Option Y → Type 0
  IsFrom pick xs i d y = (j : ℕ) × (j < length xs) × (pick (get_or xs j d) ≡ y) × (count_by (picks pick) (take j xs) ≡ i)

  from_cons : (pick : X → Option Y) (x : X) (xs : List X) (y : Y) (d : X) (e : Y) → pick x ≡ Some y
      → ((k : ℕ) → k < length (filter_map pick xs) → IsFrom pick xs k d (Some (get_or (filter_map pick xs) k e)))
      → (k : ℕ) → k < suc (length (filter_map pick xs)) → IsFrom pick (x ∷ xs) k d (Some (get_or (y ∷ filter_map pick xs) k e))
  from_cons pick x xs y d e is each zero below = (0, omega arith, is, refl)
  from_cons pick x xs y d e is each (suc k) below =
      let rest = each k (omega (arith, below)) in
      (suc rest.0, omega (arith, rest.1), rest.2, count_by-cons_yes (picks pick) x (take rest.0 xs) (ap is_some is) ∙ omega (arith, rest.3))

  -- and each picked element stands so in the list
  pub filter_map-from : (pick : X → Option Y) (xs : List X) (i : ℕ) (d : X) (e : Y) → i < length (filter_map pick xs)
      → IsFrom pick xs i d (Some (get_or (filter_map pick xs) i e))
  filter_map-from pick [] i d e within = absurd (omega arith)
  filter_map-from pick (x ∷ xs) i d e within =
      let kept = filter_map pick xs in
      let Goal : List Y → ℕ → Type 0 =
      λ ys k. IsFrom pick (x ∷ xs) k d (Some (get_or ys k e)) in
      elim (cases_Option (pick x)) as (λ _. Goal (cons_option (pick x) kept) i) [
        | inl dropped ↦
            let rest = filter_map-from pick xs i d e (omega (arith, within, ap (λ o. length (cons_option o kept)) dropped)) in
            subst (λ o. Goal (cons_option o kept) i) (sym dropped)
            (suc rest.0, omega (arith, rest.1), rest.2, count_by-cons_no (picks pick) x (take rest.0 xs) (ap is_some dropped) ∙ rest.3)
        | inr found ↦
            subst (λ o. Goal (cons_option o kept) i) (sym found.1)
            (from_cons pick x xs found.0 d e found.1 (λ k below. filter_map-from pick xs k d e below) i
            (omega (arith, within, ap (λ o. length (cons_option o kept)) found.1)))
      ]

  -- the picked elements before one are those that are picked from before its position
  pub take-filter_map : (pick : X → Option Y) (xs : List X) (j : ℕ) → take (count_by (picks pick) (take j xs)) (filter_map pick xs) ≡ filter_map pick (take j xs)
  take-filter_map pick [] zero = refl
  take-filter_map pick [] (suc j) = refl
  take-filter_map pick (x ∷ xs) zero = refl
  take-filter_map pick (x ∷ xs) (suc j) =
      let n = count_by (picks pick) (take j xs) in
      let kept = filter_map pick xs in
      let first = filter_map pick (take j xs) in
      elim (cases_Option (pick x)) as (λ _. take (count_by (picks pick) (x ∷ take j xs)) (cons_option (pick x) kept) ≡ cons_option (pick x) first) [
        | inl dropped ↦
            let same : count_by (picks pick) (x ∷ take j xs) ≡ n = count_by-cons_no (picks pick) x (take j xs) (ap is_some dropped) in
            ap (λ m. take m (cons_option (pick x) kept)) same ∙ subst (λ o. take n (cons_option o kept) ≡ cons_option o first) (sym dropped) (take-filter_map pick xs j)
        | inr found ↦
            let same : count_by (picks pick) (x ∷ take j xs) ≡ suc n = omega (arith, count_by-cons_yes (picks pick) x (take j xs) (ap is_some found.1)) in
            ap (λ m. take m (cons_option (pick x) kept)) same
            ∙ subst (λ o. take (suc n) (cons_option o kept) ≡ cons_option o first) (sym found.1) (ap (λ ys. found.0 ∷ ys) (take-filter_map pick xs j))
      ]

  -- counting picked elements by a test
  pub count_by-filter_map : (pick : X → Option Y) (test : Y → Bool) (both : X → Bool) (xs : List X) → ((x : X) → (y : Y) → pick x ≡ Some y → both x ≡ test y)
      → ((x : X) → pick x ≡ None → both x ≡ false) → count_by test (filter_map pick xs) ≡ count_by both xs
  count_by-filter_map pick test both [] found missed = refl
  count_by-filter_map pick test both (x ∷ xs) found missed =
      let kept = filter_map pick xs in
      let rest = count_by-filter_map pick test both xs found missed in
      elim (cases_Option (pick x)) as (λ _. count_by test (cons_option (pick x) kept) ≡ count_by both (x ∷ xs)) [
        | inl dropped ↦ ap (λ o. count_by test (cons_option o kept)) dropped ∙ (rest ∙ sym (count_by-cons_no both x xs (missed x dropped)))
        | inr picked ↦
            ap (λ o. count_by test (cons_option o kept)) picked.1
            ∙ omega (
              arith,
              sum_by-cons (λ y. one_if (test y)) picked.0 kept,
              sum_by-cons (λ y. one_if (both y)) x xs,
              rest,
              ap one_if (found x picked.0 picked.1),
            )
      ]

module _ {X : Type 0} where
  -- a test that passes before a position as another one does, and nowhere else
  pub count_by-before : (test other : X → Bool) (xs : List X) (j : ℕ) → ((i : ℕ) (d : X) → i < length xs → i < j → test (get_or xs i d) ≡ other (get_or xs i d))
      → ((i : ℕ) (d : X) → i < length xs → j ≤ i → test (get_or xs i d) ≡ false) → count_by test xs ≡ count_by other (take j xs)
  count_by-before test other [] zero before after = refl
  count_by-before test other [] (suc j) before after = refl
  count_by-before test other (x ∷ xs) zero before after =
      count_by-cons_no test x xs (after 0 x (omega arith) (omega arith))
      ∙ count_by-before test other xs zero (λ i d within below. absurd (omega arith)) (λ i d within above. after (suc i) d (omega arith) (omega arith))
  count_by-before test other (x ∷ xs) (suc j) before after =
      let rest = count_by-before test other xs j (λ i d within below. before (suc i) d (omega arith) (omega arith))
      (λ i d within above. after (suc i) d (omega arith) (omega arith)) in
      omega (
        arith,
        sum_by-cons (λ y. one_if (test y)) x xs,
        sum_by-cons (λ y. one_if (other y)) x (take j xs),
        rest,
        ap one_if (before 0 x (omega arith) (omega arith)),
      )

  -- a test that holds of elements that another one keeps
  pub count_by-filter_both : (keep test : X → Bool) (xs : List X) → ((x : X) → test x ≡ true → keep x ≡ true) → count_by test (filter keep xs) ≡ count_by test xs
  count_by-filter_both keep test [] implied = refl
  count_by-filter_both keep test (x ∷ xs) implied =
      let rest = count_by-filter_both keep test xs implied in
      let kept = filter keep xs in
      elim (cases_Bool (keep x)) as (λ _. count_by test (cond (keep x) (x ∷ kept) kept) ≡ count_by test (x ∷ xs)) [
        | inl stays ↦ ap (λ t. count_by test (cond t (x ∷ kept) kept)) stays
            ∙ omega (arith, sum_by-cons (λ y. one_if (test y)) x kept, sum_by-cons (λ y. one_if (test y)) x xs, rest)
        | inr goes ↦
            let fails : test x ≡ false = elim (cases_Bool (test x)) as (λ _. test x ≡ false) [
              | inl passes ↦ absurd (cc (goes, implied x passes))
              | inr fails ↦ fails
            ] in
            ap (λ t. count_by test (cond t (x ∷ kept) kept)) goes ∙ (rest ∙ sym (count_by-cons_no test x xs fails))
      ]
