-- What holds where a record may be counted next, and after it is.
use Rattle.std.proofs.Common.{◌≡◌, ℕ, ◌+◌, ◌^◌, ◌<◌, ◌≤◌, ◌==◌, zero, suc, Bool, true, false, not, List, [], ◌∷◌, ◌++◌, length, get_or, take, set, refl, sym, ap, subst, ◌∙◌, arith, inl, inr, get_or-set_other, get_or-set_same, length-set}
use Rattle.at_fold.proofs.Prelude.{cases_Bool, cases_eq, get_or_default, take_all, take_more, All-append, All-contains_itself, All-filter, All-get_or, Contains, sum_by, BookTerms, AreTargetsOn, get_or-counts, length-counts, repeats-firsts, firsts-nil, one_if, published, repeats-own, sum_by-firsts_new, sum_by-firsts_repeat, credit_of, debit_of, publication_at, is_round_on, names, prefix_of, IsShownDecision, IsHistory, IsShownEntry, count_of, counts, no_publication, publications_of, firsts, repeats, Entry, Own, Round, Publication, counted_records, AreSumsOf, HasCounted, MayCount, AccountSums, FitsMore, FitsRound, HasSums, TotalSums, after_entry, is_new_to, sums_at}
use Rattle.at_fold.proofs.Laws.CountedRecords.{All-counted_records, HasSameRecords-more, length-counted_records-le}
use Rattle.at_fold.proofs.NewRound.{AreSumsOf-new}
use Rattle.at_fold.proofs.OneMoreRecord.{AreSumsOf-repeat}
use Rattle.at_fold.proofs.SumsOfLists.{AreSumsOf-same}

-- the record that is counted next
abbrev pub next_record : TotalSums → List Publication → ℕ → Publication
next_record t seen p = publication_at (publications_of p seen) (get_or t.upto p 0)

-- the laws of a record of a history
abbrev IsShown : BookTerms → List Publication → Publication → Type 0
IsShown b seen x = IsShownEntry b x.process (prefix_of x.view seen) x.entry × IsShownDecision b seen x.entry

IsShown-IsHistory : (b : BookTerms) (seen : List Publication) (x : Publication) → IsHistory b seen → Contains seen x → IsShown b seen x
IsShown-IsHistory b seen x history (k, within, is) =
    subst (IsShown b seen) (get_or_default seen k no_publication x within ∙ is) (history.entries k within, history.decisions k within)

HasSums-IsShown : (b : BookTerms) (seen xs prefix : List Publication) (p : ℕ) (e : Entry) (all_sums : List AccountSums) → AreSumsOf b xs all_sums
    → IsShownEntry b p prefix e → IsShownDecision b seen e → HasSums all_sums e
HasSums-IsShown b seen xs prefix p (Own from targets) all_sums so entry decision =
    (omega (arith, so.sized, entry.source_in), subst (λ n. AreTargetsOn n targets) (sym so.sized) entry.targets_in.accounts)
HasSums-IsShown b seen xs prefix p (Round account r d targets) all_sums so entry decision =
    let account_sums = so.accounts account entry.0.account_in in (
      omega (arith, so.sized, entry.0.account_in),
      subst (λ n. AreTargetsOn n targets) (sym so.sized) entry.1.accounts,
      omega (arith, account_sums.room, decision.room),
      omega (arith, account_sums.slots_room, entry.3),
      omega (arith, (account_sums.slots d.slot entry.3).room, decision.number_in),
    )

-- a list has no more rounds than records
sum_by-firsts_tests : (g : Publication → Bool) (m : ℕ) (xs : List Publication) → m ≤ length xs
    → sum_by (λ x. one_if (g x)) (firsts (take m xs)) ≤ m
sum_by-firsts_tests g zero xs within = omega (arith, ap (sum_by (λ x. one_if (g x))) firsts-nil)
sum_by-firsts_tests g (suc m) xs within =
    let x = get_or xs m no_publication in
    let e : suc m ≡ m + 1 = omega arith in
    let more = ap (λ k. sum_by (λ x. one_if (g x)) (firsts (take k xs))) e
    ∙ ap (λ t. sum_by (λ x. one_if (g x)) (firsts t)) (take_more xs m no_publication (omega (arith, within))) in
    let rest = sum_by-firsts_tests g m xs (omega (arith, within)) in
    elim (cases_Bool (repeats x (firsts (take m xs)))) as (λ _. sum_by (λ x. one_if (g x)) (firsts (take (suc m) xs)) ≤ suc m) [
      | inl again ↦ omega (arith, more, rest, sum_by-firsts_repeat (λ x. one_if (g x)) (take m xs) x again)
      | inr new ↦ omega (arith, more, rest, sum_by-firsts_new (λ x. one_if (g x)) (take m xs) x new, at_most_one (g x))
    ]
  where
    at_most_one : (t : Bool) → one_if t ≤ 1
    at_most_one true = omega arith
    at_most_one false = omega arith

rounds-le : (g : Publication → Bool) (xs : List Publication) → sum_by (λ x. one_if (g x)) (firsts xs) ≤ length xs
rounds-le g xs =
    omega (
      arith,
      sum_by-firsts_tests g (length xs) xs (omega arith),
      ap (λ t. sum_by (λ x. one_if (g x)) (firsts t)) (take_all (length xs) xs (omega arith)),
    )

FitsRound-IsShown : (b : BookTerms) (seen xs prefix : List Publication) (p : ℕ) (e : Entry) (all_sums : List AccountSums) → AreSumsOf b xs all_sums
    → length xs ≤ 131072 → IsShownEntry b p prefix e → FitsRound all_sums e
FitsRound-IsShown b seen xs prefix p (Own from targets) all_sums so few entry = tt
FitsRound-IsShown b seen xs prefix p (Round account r d targets) all_sums so few entry =
    let account_sums = so.accounts account entry.0.account_in in (
      omega (arith, account_sums.rounds, rounds-le (λ x. is_round_on account x.entry) xs, few),
      omega (arith, (account_sums.slots d.slot entry.3).done, rounds-le (λ x. names account d.slot x.entry) xs, few),
    )

is_new_to-IsShown : (b : BookTerms) (seen xs prefix : List Publication) (p : ℕ) (v : List ℕ) (e : Entry) (all_sums : List AccountSums)
    → AreSumsOf b xs all_sums → IsShownEntry b p prefix e → IsShownDecision b seen e → is_new_to all_sums e ≡ not (repeats (published p v e) (firsts xs))
is_new_to-IsShown b seen xs prefix p v (Own from targets) all_sums so entry decision = ap not (sym (repeats-own p v from targets (firsts xs)))
is_new_to-IsShown b seen xs prefix p v (Round account r d targets) all_sums so entry decision =
    let account_sums = so.accounts account entry.0.account_in in
    ap not (account_sums.is_counted r decision.room ∙ sym (repeats-firsts (published p v (Round account r d targets)) xs))

module _ (t : TotalSums) (b : BookTerms) (seen : List Publication) (p : ℕ) (e : Entry) (may : MayCount t b seen p e) where
  abbrev x : Publication
  x = next_record t seen p

  listed : Contains seen x
  unfolding publications_of
  listed =
      All-get_or (Contains seen) (publications_of p seen) (get_or t.upto p 0) no_publication may.next.within
      (All-filter (λ (y : Publication). y.process == p) (Contains seen) seen (All-contains_itself seen))

  shown : IsShown b seen x
  shown = IsShown-IsHistory b seen x may.history listed

  few : length (counted_records t.upto seen) ≤ 131072
  few = length-counted_records-le b t.upto seen may.counts.book may.history may.counts.processes

  pub HasSums-MayCount : HasSums t.accounts e
  HasSums-MayCount =
      subst (HasSums t.accounts) (sym may.next.entry)
      (HasSums-IsShown b seen (counted_records t.upto seen) (prefix_of x.view seen) x.process x.entry t.accounts may.counts.sums shown.0 shown.1)

  pub FitsMore-MayCount : FitsMore t.accounts
  FitsMore-MayCount a within =
      let account_sums = may.counts.sums.accounts a (omega (arith, within, may.counts.sums.sized)) in
      (omega (arith, account_sums.small_credits, few), omega (arith, account_sums.small_debits, few))

  pub FitsRound-MayCount : FitsRound t.accounts e
  FitsRound-MayCount =
      subst (FitsRound t.accounts) (sym may.next.entry)
      (FitsRound-IsShown b seen (counted_records t.upto seen) (prefix_of x.view seen) x.process x.entry t.accounts may.counts.sums few shown.0)

  is_new : is_new_to t.accounts e ≡ not (repeats x (firsts (counted_records t.upto seen)))
  is_new =
      ap (is_new_to t.accounts) may.next.entry
      ∙ is_new_to-IsShown b seen (counted_records t.upto seen) (prefix_of x.view seen) x.process x.view x.entry t.accounts may.counts.sums shown.0 shown.1

  -- with these sums the record is counted
  HasCounted-more : (after : List AccountSums) → AreSumsOf b (counted_records t.upto seen ++ x ∷ []) after
      → HasCounted (record { upto = set t.upto p (get_or t.upto p 0 + 1); accounts = after }) b seen
  HasCounted-more after so =
      let upto = set t.upto p (get_or t.upto p 0 + 1) in
      let sized : length upto ≡ length t.upto = length-set t.upto p (get_or t.upto p 0 + 1) in
      let inside : p < length t.upto = omega (arith, may.next.process, may.counts.processes) in
      record {
        book = may.counts.book;
        processes = sized ∙ may.counts.processes;
        within = λ q below.
            let known : q < b.processes = omega (arith, below, length-counts b.processes seen) in
            elim (cases_eq q p) as (λ _. get_or upto q 0 ≤ get_or (counts b.processes seen) q 0) [
              | inl same ↦
                  omega (
                    arith,
                    ap (λ k. get_or upto k 0) same,
                    get_or-set_same t.upto p (get_or t.upto p 0 + 1) 0 inside,
                    get_or-counts b.processes seen q 0 known,
                    ap (λ k. count_of k seen) same,
                    may.next.within,
                  )
              | inr apart ↦ omega (arith, get_or-set_other t.upto p q (get_or t.upto p 0 + 1) 0 apart, may.counts.within q below)
            ];
        sums = AreSumsOf-same b seen may.history (counted_records t.upto seen ++ x ∷ []) (counted_records upto seen) after
            (HasSameRecords-more t.upto seen p inside may.next.within)
            (All-append (Contains seen) (counted_records t.upto seen) (x ∷ []) (All-counted_records t.upto seen)
            (λ k d within. subst (Contains seen) (only k d within) listed))
            (All-counted_records upto seen) so;
      }
    where
      only : (k : ℕ) (d : Publication) → k < length (x ∷ []) → x ≡ get_or (x ∷ []) k d
      only zero d within = refl
      only (suc k) d within = absurd (omega (arith, within))

  not_true : (s : Bool) → not s ≡ true → s ≡ false
  not_true true so = absurd (cc so)
  not_true false so = refl

  not_false : (s : Bool) → not s ≡ false → s ≡ true
  not_false true so = refl
  not_false false so = absurd (cc so)

  -- a record of a new round, or an own one, is counted where its amounts and its decision are added
  pub HasCounted-new : (after : List AccountSums) → is_new_to t.accounts e ≡ true
      → ((a : ℕ) → (credit_of a e ≤ 2 ^ 66) × (debit_of a e ≤ 2 ^ 66)) → length after ≡ length t.accounts
      → ((a : ℕ) → a < length t.accounts → sums_at after a ≡ after_entry a e (sums_at t.accounts a))
      → HasCounted (record { upto = set t.upto p (get_or t.upto p 0 + 1); accounts = after }) b seen
  HasCounted-new after new small same so =
      HasCounted-more after
      (AreSumsOf-new b (counted_records t.upto seen) x t.accounts after (not_true (repeats x (firsts (counted_records t.upto seen))) (sym is_new ∙ new))
      (subst (HasSums t.accounts) may.next.entry HasSums-MayCount)
      (λ a. subst (λ (f : Entry). (credit_of a f ≤ 2 ^ 66) × (debit_of a f ≤ 2 ^ 66)) may.next.entry (small a)) same
      (λ a within. so a within ∙ ap (λ f. after_entry a f (sums_at t.accounts a)) may.next.entry) may.counts.sums)

  -- and one of a round that is counted, where nothing is
  pub HasCounted-repeat : is_new_to t.accounts e ≡ false
      → HasCounted (record { upto = set t.upto p (get_or t.upto p 0 + 1); accounts = t.accounts }) b seen
  HasCounted-repeat again =
      HasCounted-more t.accounts
      (AreSumsOf-repeat b seen (counted_records t.upto seen) x t.accounts may.history (All-counted_records t.upto seen) listed
      (not_false (repeats x (firsts (counted_records t.upto seen))) (sym is_new ∙ again)) may.counts.sums)
