-- Sums of a list: they are those of each list with the same records, and one more record changes them so.
use Rattle.std.proofs.Common.{◌≡◌, ℕ, ◌*◌, ◌^◌, ◌<◌, ◌&&◌, zero, suc, eqb, Bool, true, false, List, [], ◌∷◌, ◌++◌, length, get_or, refl, sym, ap, subst, ◌∙◌, arith, inl, inr}
use Rattle.std.specs.Prelude.{Option, Some, None}
use Rattle.at_fold.proofs.Prelude.{eqb-true, get_or_default, All-append, All-contains, All-weaker, Contains-append_cases, Contains-append_left, Contains-append_right, All, Contains, sum_by, Decision, BookTerms, sum_by-firsts-same, one_if, HasSameRecords, IsShuffle, IsShuffle-HasSameRecords, length-IsShuffle, list_any-IsShuffle, credit_of, debit_of, publication_at, is_round, is_round_on, is_same_round, names, settles, AgreeOnRound, IsHistory, no_publication, firsts, Entry, Own, Round, Publication, IsSettledSo, AreSumsOf, IsAccountOf, IsSlotOf, AccountSums, SlotSums, answer_at, sums_at, slot_at}

and_true : (s t : Bool) → (s && t) ≡ true → (s ≡ true) × (t ≡ true)
and_true true true both = (refl, refl)
and_true true false both = absurd (cc both)
and_true false t both = absurd (cc both)

-- entries of one round that agree on it are the same
pub same_entry : (d e : Entry) → AgreeOnRound d e → is_same_round d e ≡ true → d ≡ e
same_entry (Own from targets) e agree same = absurd (cc same)
same_entry (Round a r d targets) (Own from aims) agree same = absurd (cc same)
same_entry (Round a r d targets) (Round k l f aims) agree same =
    let parts = and_true (eqb k a) (eqb l r) same in
    let account : a ≡ k = sym (eqb-true k a parts.0) in
    let round : r ≡ l = sym (eqb-true l r parts.1) in
    let rest = agree account round in
    λ i. Round (account i) (round i) (rest.0 i) (rest.1 i)

-- records of one round of a history are the same
pub same_entry-IsHistory : (b : BookTerms) (seen : List Publication) → IsHistory b seen → (x y : Publication) → Contains seen x → Contains seen y
    → is_same_round x.entry y.entry ≡ true → x.entry ≡ y.entry
same_entry-IsHistory b seen history x y (m, within, one) (k, inside, two) same =
    let first : publication_at seen m ≡ x = get_or_default seen m no_publication x within ∙ one in
    let second : publication_at seen k ≡ y = get_or_default seen k no_publication y inside ∙ two in
    let agree : AgreeOnRound x.entry y.entry =
    subst (λ (t : Publication). AgreeOnRound x.entry t.entry) second
    (subst (λ (t : Publication). AgreeOnRound t.entry (publication_at seen k).entry) first (history.agree m k within inside)) in
    same_entry x.entry y.entry agree same

-- the same elements
All-IsShuffle : (xs ys : List Publication) → IsShuffle xs ys → All (Contains ys) xs
All-IsShuffle [] ys none = λ k d within. absurd (omega (arith, within))
All-IsShuffle (x ∷ xs) ys (cut, back, split, rest) =
    subst (λ t. All (Contains t) (x ∷ xs)) (sym split)
    (All-append (Contains (cut ++ x ∷ back)) (x ∷ []) xs
    (λ k d within. subst (λ (y : Publication). Contains (cut ++ x ∷ back) y) (only k d within) (Contains-append_right cut (x ∷ back) x (0, omega arith, refl)))
    (All-weaker (Contains (cut ++ back)) (Contains (cut ++ x ∷ back)) more xs (All-IsShuffle xs (cut ++ back) rest)))
  where
    only : (k : ℕ) (d : Publication) → k < length (x ∷ []) → x ≡ get_or (x ∷ []) k d
    only zero d within = refl
    only (suc k) d within = absurd (omega (arith, within))

    more : (y : Publication) → Contains (cut ++ back) y → Contains (cut ++ x ∷ back) y
    more y found =
        elim (Contains-append_cases cut back y found) [
          | inl before ↦ Contains-append_left cut (x ∷ back) y before
          | inr (k, within, is) ↦ Contains-append_right cut (x ∷ back) y (suc k, omega (arith, within), is)
        ]

-- an answer depends on the records alone
IsSettledSo-same : (xs ys : List Publication) (a slot number : ℕ) (answer : Option (ℕ × Decision)) → HasSameRecords xs ys
    → IsSettledSo xs a slot number answer → IsSettledSo ys a slot number answer
IsSettledSo-same xs ys a slot number None same none =
    sym (list_any-IsShuffle (λ x. settles a slot number x.entry) xs ys (IsShuffle-HasSameRecords xs ys same)) ∙ none
IsSettledSo-same xs ys a slot number (Some (round, d)) same so = record {
  publication = so.publication;
  targets = so.targets;
  listed = All-contains (Contains ys) xs so.publication (All-IsShuffle xs ys (IsShuffle-HasSameRecords xs ys same)) so.listed;
  entry = so.entry;
  slot = so.slot;
  number = so.number;
}

module _ (b : BookTerms) (seen : List Publication) (history : IsHistory b seen) where
  -- a sum that counts each round once depends on the records alone
  round_sums-same : (f : Entry → ℕ) (xs ys : List Publication) → HasSameRecords xs ys → All (Contains seen) xs → All (Contains seen) ys
      → sum_by (λ x. f x.entry) (firsts xs) ≡ sum_by (λ x. f x.entry) (firsts ys)
  round_sums-same f xs ys same all all_too =
      sum_by-firsts-same (Contains seen) (λ (x : Publication). f x.entry)
      (λ x y one two e. ap f (same_entry-IsHistory b seen history x y one two e)) xs ys same all all_too

  IsSlotOf-same : (xs ys : List Publication) (a slot : ℕ) (sums : SlotSums) → HasSameRecords xs ys → All (Contains seen) xs → All (Contains seen) ys
      → IsSlotOf b xs a slot sums → IsSlotOf b ys a slot sums
  IsSlotOf-same xs ys a slot sums same all all_too so = record {
    done = so.done ∙ round_sums-same (λ e. one_if (names a slot e)) xs ys same all all_too;
    room = so.room;
    settled = λ number within. IsSettledSo-same xs ys a slot number (answer_at sums number) same (so.settled number within);
  }

  IsAccountOf-same : (xs ys : List Publication) (a : ℕ) (account_sums : AccountSums) → HasSameRecords xs ys → All (Contains seen) xs → All (Contains seen) ys
      → IsAccountOf b xs a account_sums → IsAccountOf b ys a account_sums
  IsAccountOf-same xs ys a account_sums same all all_too so =
      let shuffle = IsShuffle-HasSameRecords xs ys same in
      let long = length-IsShuffle xs ys shuffle in
      record {
        opening = so.opening;
        credits = so.credits ∙ round_sums-same (credit_of a) xs ys same all all_too;
        debits = so.debits ∙ round_sums-same (debit_of a) xs ys same all all_too;
        small_credits = omega (arith, so.small_credits, ap (λ n. n * 2 ^ 66) long);
        small_debits = omega (arith, so.small_debits, ap (λ n. n * 2 ^ 66) long);
        rounds = so.rounds ∙ round_sums-same (λ e. one_if (is_round_on a e)) xs ys same all all_too;
        room = so.room;
        is_counted = λ r within. so.is_counted r within ∙ list_any-IsShuffle (λ x. is_round a r x.entry) xs ys shuffle;
        slots_room = so.slots_room;
        slots = λ slot within. IsSlotOf-same xs ys a slot (slot_at account_sums slot) same all all_too (so.slots slot within);
      }

  -- the sums of a list are those of each list with the same records
  pub AreSumsOf-same : (xs ys : List Publication) (all_sums : List AccountSums) → HasSameRecords xs ys → All (Contains seen) xs
      → All (Contains seen) ys → AreSumsOf b xs all_sums → AreSumsOf b ys all_sums
  AreSumsOf-same xs ys all_sums same all all_too so = record {
    sized = so.sized;
    accounts = λ a within. IsAccountOf-same xs ys a (sums_at all_sums a) same all all_too (so.accounts a within);
  }
