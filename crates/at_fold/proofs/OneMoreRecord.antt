-- Sums of a list with one more record.
use Rattle.std.proofs.Common.{◌≡◌, ℕ, ◌^◌, ◌≤◌, ◌||◌, zero, suc, Bool, true, false, List, [], ◌∷◌, ◌++◌, refl, sym, ap, ◌∙◌, arith, inl, inr, length-append}
use Rattle.std.specs.Prelude.{Option, Some, None}
use Rattle.at_fold.proofs.Prelude.{cases_Bool, All-contains, Contains-append_left, list_any-append, All, Contains, list_any, Decision, BookTerms, repeats-firsts, one_if, sum_by-firsts_new, sum_by-firsts_repeat, credit_of, debit_of, is_round, is_round_on, is_same_round, names, settles, IsHistory, firsts, repeats, Entry, Publication, IsSettledSo, AreSumsOf, IsAccountOf, IsSlotOf, AccountSums, SlotSums, answer_at, sums_at, slot_at, with_amounts}
use Rattle.at_fold.proofs.SumsOfLists.{same_entry-IsHistory}

-- an element that passes a test that some element passes
found_by : (g : Publication → Bool) (xs : List Publication) → list_any g xs ≡ true → (y : Publication) × Contains xs y × (g y ≡ true)
found_by g [] some = absurd (cc some)
found_by g (x ∷ xs) some =
    elim (cases_Bool (g x)) as (λ _. (y : Publication) × Contains (x ∷ xs) y × (g y ≡ true)) [
      | inl here ↦ (x, (0, omega arith, refl), here)
      | inr not_here ↦
          let later = found_by g xs (sym (ap (λ t. t || list_any g xs) not_here) ∙ some) in
          (later.0, (suc later.1.0, omega (arith, later.1.1), later.1.2), later.2)
    ]

or_false : (t : Bool) → (t || false) ≡ t
or_false true = refl
or_false false = refl

pub or_true : (t : Bool) → (t || true) ≡ true
or_true true = refl
or_true false = refl

pub list_any_push : (g : Publication → Bool) (xs : List Publication) (x : Publication) → list_any g (xs ++ x ∷ []) ≡ (list_any g xs || g x)
list_any_push g xs x = list_any-append g xs (x ∷ []) ∙ ap (λ t. list_any g xs || t) (or_false (g x))

-- one more element that fails the test, or like which there was one
pub list_any_fails : (g : Publication → Bool) (xs : List Publication) (x : Publication) → g x ≡ false → list_any g (xs ++ x ∷ []) ≡ list_any g xs
list_any_fails g xs x fails = list_any_push g xs x ∙ (ap (λ t. list_any g xs || t) fails ∙ or_false (list_any g xs))

list_any_again : (g : Entry → Bool) (xs : List Publication) (x y : Publication) → Contains xs y → x.entry ≡ y.entry
    → list_any (λ z. g z.entry) (xs ++ x ∷ []) ≡ list_any (λ z. g z.entry) xs
list_any_again g xs x y listed same =
    elim (cases_Bool (g x.entry)) as (λ _. list_any (λ z. g z.entry) (xs ++ x ∷ []) ≡ list_any (λ z. g z.entry) xs) [
      | inl passes ↦
          list_any_push (λ z. g z.entry) xs x
          ∙ (ap (λ t. list_any (λ z. g z.entry) xs || t) passes
          ∙ (or_true (list_any (λ z. g z.entry) xs) ∙ sym (found xs y listed (sym (ap g same) ∙ passes))))
      | inr fails ↦ list_any_fails (λ z. g z.entry) xs x fails
    ]
  where
    found : (zs : List Publication) (z : Publication) → Contains zs z → g z.entry ≡ true → list_any (λ u. g u.entry) zs ≡ true
    found [] z (k, within, is) passes = absurd (omega (arith, within))
    found (u ∷ zs) z (zero, within, is) passes = ap (λ t. t || list_any (λ w. g w.entry) zs) (ap (λ (w : Publication). g w.entry) is ∙ passes)
    found (u ∷ zs) z (suc k, within, is) passes =
        ap (λ t. g u.entry || t) (found zs z (k, omega (arith, within), is) passes) ∙ or_true (g u.entry)

-- an answer stays with one more record that says nothing of the request
pub IsSettledSo-push : (xs : List Publication) (x : Publication) (a slot number : ℕ) (answer : Option (ℕ × Decision))
    → list_any (λ z. settles a slot number z.entry) (xs ++ x ∷ []) ≡ list_any (λ z. settles a slot number z.entry) xs
    → IsSettledSo xs a slot number answer → IsSettledSo (xs ++ x ∷ []) a slot number answer
IsSettledSo-push xs x a slot number None same none = same ∙ none
IsSettledSo-push xs x a slot number (Some (round, d)) same so = record {
  publication = so.publication;
  targets = so.targets;
  listed = Contains-append_left xs (x ∷ []) so.publication so.listed;
  entry = so.entry;
  slot = so.slot;
  number = so.number;
}

module _ (b : BookTerms) where
  -- one more record of a round that is counted
  IsSlotOf-repeat : (xs : List Publication) (x y : Publication) (a slot : ℕ) (sums : SlotSums) → repeats x (firsts xs) ≡ true
      → Contains xs y → x.entry ≡ y.entry → IsSlotOf b xs a slot sums → IsSlotOf b (xs ++ x ∷ []) a slot sums
  IsSlotOf-repeat xs x y a slot sums again listed same so = record {
    done = so.done ∙ sym (sum_by-firsts_repeat (λ z. one_if (names a slot z.entry)) xs x again);
    room = so.room;
    settled = λ number within.
        IsSettledSo-push xs x a slot number (answer_at sums number) (list_any_again (settles a slot number) xs x y listed same) (so.settled number within);
  }

  IsAccountOf-repeat : (xs : List Publication) (x y : Publication) (a : ℕ) (account_sums : AccountSums) → repeats x (firsts xs) ≡ true
      → Contains xs y → x.entry ≡ y.entry → IsAccountOf b xs a account_sums → IsAccountOf b (xs ++ x ∷ []) a account_sums
  IsAccountOf-repeat xs x y a account_sums again listed same so =
      let long = length-append xs (x ∷ []) in
      record {
        opening = so.opening;
        credits = so.credits ∙ sym (sum_by-firsts_repeat (λ z. credit_of a z.entry) xs x again);
        debits = so.debits ∙ sym (sum_by-firsts_repeat (λ z. debit_of a z.entry) xs x again);
        small_credits = omega (arith, so.small_credits, long);
        small_debits = omega (arith, so.small_debits, long);
        rounds = so.rounds ∙ sym (sum_by-firsts_repeat (λ z. one_if (is_round_on a z.entry)) xs x again);
        room = so.room;
        is_counted = λ r within. so.is_counted r within ∙ sym (list_any_again (is_round a r) xs x y listed same);
        slots_room = so.slots_room;
        slots = λ slot within. IsSlotOf-repeat xs x y a slot (slot_at account_sums slot) again listed same (so.slots slot within);
      }

  pub AreSumsOf-repeat : (seen xs : List Publication) (x : Publication) (all_sums : List AccountSums) → IsHistory b seen
      → All (Contains seen) xs → Contains seen x → repeats x (firsts xs) ≡ true → AreSumsOf b xs all_sums → AreSumsOf b (xs ++ x ∷ []) all_sums
  AreSumsOf-repeat seen xs x all_sums history all known again so =
      let twin = found_by (λ z. is_same_round x.entry z.entry) xs (sym (repeats-firsts x xs) ∙ again) in
      let same = same_entry-IsHistory b seen history x twin.0 known (All-contains (Contains seen) xs twin.0 all twin.1) twin.2 in
      record { sized = so.sized; accounts = λ a within. IsAccountOf-repeat xs x twin.0 a (sums_at all_sums a) again twin.1 same (so.accounts a within) }

  -- one more record that is of no round of the account
  pub IsSlotOf-other : (xs : List Publication) (x : Publication) (a slot : ℕ) (sums : SlotSums) → repeats x (firsts xs) ≡ false
      → names a slot x.entry ≡ false → ((number : ℕ) → settles a slot number x.entry ≡ false) → IsSlotOf b xs a slot sums
      → IsSlotOf b (xs ++ x ∷ []) a slot sums
  IsSlotOf-other xs x a slot sums new unnamed unsettled so = record {
    done = omega (arith, so.done, sum_by-firsts_new (λ z. one_if (names a slot z.entry)) xs x new, ap one_if unnamed);
    room = so.room;
    settled = λ number within.
        IsSettledSo-push xs x a slot number (answer_at sums number)
        (list_any_fails (λ z. settles a slot number z.entry) xs x (unsettled number)) (so.settled number within);
  }

  pub IsAccountOf-other : (xs : List Publication) (x : Publication) (a : ℕ) (account_sums : AccountSums) → repeats x (firsts xs) ≡ false
      → is_round_on a x.entry ≡ false → ((r : ℕ) → is_round a r x.entry ≡ false) → ((slot : ℕ) → names a slot x.entry ≡ false)
      → ((slot number : ℕ) → settles a slot number x.entry ≡ false)
      → credit_of a x.entry ≤ 2 ^ 66 → debit_of a x.entry ≤ 2 ^ 66 → IsAccountOf b xs a account_sums
      → IsAccountOf b (xs ++ x ∷ []) a (with_amounts (credit_of a x.entry) (debit_of a x.entry) account_sums)
  IsAccountOf-other xs x a account_sums new off none unnamed unsettled small less so =
      let long = length-append xs (x ∷ []) in
      record {
        opening = so.opening;
        credits = omega (arith, so.credits, sum_by-firsts_new (λ z. credit_of a z.entry) xs x new);
        debits = omega (arith, so.debits, sum_by-firsts_new (λ z. debit_of a z.entry) xs x new);
        small_credits = omega (arith, so.small_credits, long, small);
        small_debits = omega (arith, so.small_debits, long, less);
        rounds = omega (arith, so.rounds, sum_by-firsts_new (λ z. one_if (is_round_on a z.entry)) xs x new, ap one_if off);
        room = so.room;
        is_counted = λ r within. so.is_counted r within ∙ sym (list_any_fails (λ z. is_round a r z.entry) xs x (none r));
        slots_room = so.slots_room;
        slots = λ slot within. IsSlotOf-other xs x a slot (slot_at account_sums slot) new (unnamed slot) (λ number. unsettled slot number) (so.slots slot within);
      }
