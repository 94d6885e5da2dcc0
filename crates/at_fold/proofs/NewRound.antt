-- Sums of a list with the first record of one more round.
use Rattle.std.proofs.Common.{◌≡◌, ℕ, ◌^◌, ◌<◌, ◌≤◌, ◌&&◌, ◌||◌, eqb, Bool, true, false, cond, List, [], ◌∷◌, ◌++◌, length, refl, sym, ap, subst, ◌∙◌, arith, inl, inr, get_or-set_other, get_or-set_same, length-set, length-append}
use Rattle.std.specs.Prelude.{Some, None}
use Rattle.at_fold.proofs.Prelude.{cases_eq, eq-eqb, ne_eqb, Contains-push, list_any, Decision, BookTerms, TargetPair, one_if, published, sum_by-firsts_new, credit_of, debit_of, is_round, is_round_on, names, settles, firsts, repeats, Entry, Own, Round, Publication, IsSettledSo, IsDecidedIn, AreSumsOf, IsAccountOf, IsSlotOf, AccountSums, HasSums, SlotSums, after_entry, answer_at, is_counted, no_slot, sums_at, slot_at, with_amounts, with_answer, with_round}
use Rattle.at_fold.proofs.OneMoreRecord.{IsAccountOf-other, IsSettledSo-push, IsSlotOf-other, list_any_fails, list_any_push, or_true}

-- a test of two numbers of which the first ones are the same
both_same : (a : ℕ) (t : Bool) → (eqb a a && t) ≡ t
both_same a t = ap (λ u. u && t) (eq-eqb a a refl)

module _ (b : BookTerms) (xs : List Publication) (p : ℕ) (v : List ℕ) (a r : ℕ) (d : Decision) (targets : List TargetPair)
    (new : repeats (published p v (Round a r d targets)) (firsts xs) ≡ false) where
  abbrev x : Publication
  x = published p v (Round a r d targets)

  -- the request that the decision names is answered by it
  named_answer : (number : ℕ) (sums : SlotSums) → number ≡ d.number → d.number < length sums.settled
      → IsSettledSo (xs ++ x ∷ []) a d.slot number (answer_at (with_answer sums r d) number)
  named_answer number sums same within =
      let here : answer_at (with_answer sums r d) number ≡ Some (r, d) =
      ap (answer_at (with_answer sums r d)) same ∙ get_or-set_same sums.settled d.number (Some (r, d)) None within in
      let answer : IsDecidedIn (xs ++ x ∷ []) a d.slot number r d = record {
        publication = x;
        targets = targets;
        listed = Contains-push xs x;
        entry = refl;
        slot = refl;
        number = sym same;
      } in
      subst (IsSettledSo (xs ++ x ∷ []) a d.slot number) (sym here) answer

  IsSlotOf-named : (sums : SlotSums) → d.number < length sums.settled → IsSlotOf b xs a d.slot sums
      → IsSlotOf b (xs ++ x ∷ []) a d.slot (with_answer sums r d)
  IsSlotOf-named sums within so = record {
    done = omega (
      arith,
      so.done,
      sum_by-firsts_new (λ z. one_if (names a d.slot z.entry)) xs x new,
      ap one_if (both_same a (eqb d.slot d.slot) ∙ eq-eqb d.slot d.slot refl),
    );
    room = length-set sums.settled d.number (Some (r, d)) ∙ so.room;
    settled = λ number inside.
        elim (cases_eq d.number number) as (λ _. IsSettledSo (xs ++ x ∷ []) a d.slot number (answer_at (with_answer sums r d) number)) [
          | inl same ↦ named_answer number sums (sym same) within
          | inr apart ↦
              let here : answer_at (with_answer sums r d) number ≡ answer_at sums number =
              get_or-set_other sums.settled d.number number (Some (r, d)) None (λ e. apart (sym e)) in
              let fails : settles a d.slot number x.entry ≡ false =
              both_same a (eqb d.slot d.slot && eqb d.number number) ∙ (both_same d.slot (eqb d.number number) ∙ ne_eqb d.number number apart) in
              subst (IsSettledSo (xs ++ x ∷ []) a d.slot number) (sym here)
              (IsSettledSo-push xs x a d.slot number (answer_at sums number) (list_any_fails (λ z. settles a d.slot number z.entry) xs x fails)
              (so.settled number inside))
        ];
  }

  slots_after : (account_sums : AccountSums) → d.slot < length account_sums.slots → d.number < length (slot_at account_sums d.slot).settled → IsAccountOf b xs a account_sums
      → (slot : ℕ) → IsSlotOf b xs a slot (slot_at account_sums slot) → IsSlotOf b (xs ++ x ∷ []) a slot (slot_at (with_round account_sums r d) slot)
  slots_after account_sums slot_in number_in so slot this =
      elim (cases_eq d.slot slot) as (λ _. IsSlotOf b (xs ++ x ∷ []) a slot (slot_at (with_round account_sums r d) slot)) [
        | inl same ↦
            subst (λ k. IsSlotOf b (xs ++ x ∷ []) a k (slot_at (with_round account_sums r d) k)) same
            (subst (IsSlotOf b (xs ++ x ∷ []) a d.slot)
            (sym (get_or-set_same account_sums.slots d.slot (with_answer (slot_at account_sums d.slot) r d) no_slot slot_in))
            (IsSlotOf-named (slot_at account_sums d.slot) number_in (subst (λ k. IsSlotOf b xs a k (slot_at account_sums k)) (sym same) this)))
        | inr apart ↦
            let off : eqb d.slot slot ≡ false = ne_eqb d.slot slot apart in
            subst (IsSlotOf b (xs ++ x ∷ []) a slot)
            (sym (get_or-set_other account_sums.slots d.slot slot (with_answer (slot_at account_sums d.slot) r d) no_slot (λ e. apart (sym e))))
            (IsSlotOf-other b xs x a slot (slot_at account_sums slot) new (both_same a (eqb d.slot slot) ∙ off)
            (λ number. both_same a (eqb d.slot slot && eqb d.number number) ∙ ap (λ t. t && eqb d.number number) off) this)
      ]

  round_after : (account_sums : AccountSums) (k : ℕ) → r < length account_sums.is_counted → is_counted account_sums k ≡ list_any (λ z. is_round a k z.entry) xs
      → is_counted (with_round account_sums r d) k ≡ list_any (λ z. is_round a k z.entry) (xs ++ x ∷ [])
  round_after account_sums k within so =
      elim (cases_eq r k) as (λ _. is_counted (with_round account_sums r d) k ≡ list_any (λ z. is_round a k z.entry) (xs ++ x ∷ [])) [
        | inl same ↦
            let passes : is_round a k x.entry ≡ true = both_same a (eqb r k) ∙ eq-eqb r k same in
            ap (λ j. is_counted (with_round account_sums r d) j) (sym same)
            ∙ (get_or-set_same account_sums.is_counted r true false within
            ∙ sym (list_any_push (λ z. is_round a k z.entry) xs x
            ∙ (ap (λ t. list_any (λ z. is_round a k z.entry) xs || t) passes ∙ or_true (list_any (λ z. is_round a k z.entry) xs))))
        | inr apart ↦
            get_or-set_other account_sums.is_counted r k true false (λ e. apart (sym e))
            ∙ (so ∙ sym (list_any_fails (λ z. is_round a k z.entry) xs x (both_same a (eqb r k) ∙ ne_eqb r k apart)))
      ]

  IsAccountOf-round : (account_sums : AccountSums) → r < length account_sums.is_counted → d.slot < length account_sums.slots
      → d.number < length (slot_at account_sums d.slot).settled → credit_of a x.entry ≤ 2 ^ 66 → debit_of a x.entry ≤ 2 ^ 66 → IsAccountOf b xs a account_sums
      → IsAccountOf b (xs ++ x ∷ []) a (with_round (with_amounts (credit_of a x.entry) (debit_of a x.entry) account_sums) r d)
  IsAccountOf-round account_sums round_in slot_in number_in small less so =
      let long = length-append xs (x ∷ []) in
      record {
        opening = so.opening;
        credits = omega (arith, so.credits, sum_by-firsts_new (λ z. credit_of a z.entry) xs x new);
        debits = omega (arith, so.debits, sum_by-firsts_new (λ z. debit_of a z.entry) xs x new);
        small_credits = omega (arith, so.small_credits, long, small);
        small_debits = omega (arith, so.small_debits, long, less);
        rounds = omega (arith, so.rounds, sum_by-firsts_new (λ z. one_if (is_round_on a z.entry)) xs x new, ap one_if (eq-eqb a a refl));
        room = length-set account_sums.is_counted r true ∙ so.room;
        is_counted = λ k within. round_after account_sums k round_in (so.is_counted k within);
        slots_room = length-set account_sums.slots d.slot (with_answer (slot_at account_sums d.slot) r d) ∙ so.slots_room;
        slots = λ slot within. slots_after account_sums slot_in number_in so slot (so.slots slot within);
      }

-- the sums of an account after a record of a new round, or an own one
IsAccountOf-new : (b : BookTerms) (xs : List Publication) (p : ℕ) (v : List ℕ) (e : Entry) (all_sums : List AccountSums) (a : ℕ)
    → repeats (published p v e) (firsts xs) ≡ false → HasSums all_sums e → credit_of a e ≤ 2 ^ 66 → debit_of a e ≤ 2 ^ 66
    → IsAccountOf b xs a (sums_at all_sums a) → IsAccountOf b (xs ++ published p v e ∷ []) a (after_entry a e (sums_at all_sums a))
IsAccountOf-new b xs p v (Own from targets) all_sums a new places small less so =
    IsAccountOf-other b xs (published p v (Own from targets)) a (sums_at all_sums a) new refl (λ r. refl) (λ slot. refl) (λ slot number. refl) small less so
IsAccountOf-new b xs p v (Round account r d targets) all_sums a new places small less so =
    let e : Entry = Round account r d targets in
    let y : Publication = published p v e in
    let account_sums : AccountSums = with_amounts (credit_of a e) (debit_of a e) (sums_at all_sums a) in
    elim (cases_eq account a) as (λ _. IsAccountOf b (xs ++ y ∷ []) a (after_entry a e (sums_at all_sums a))) [
      | inl same ↦
          subst (λ t. IsAccountOf b (xs ++ y ∷ []) a (cond t (with_round account_sums r d) account_sums)) (sym (eq-eqb account a same))
          (own_round a same small less so)
      | inr apart ↦
          let off : eqb account a ≡ false = ne_eqb account a apart in
          subst (λ t. IsAccountOf b (xs ++ y ∷ []) a (cond t (with_round account_sums r d) account_sums)) (sym off)
          (IsAccountOf-other b xs y a (sums_at all_sums a) new off (λ k. ap (λ t. t && eqb r k) off) (λ slot. ap (λ t. t && eqb d.slot slot) off)
          (λ slot number. ap (λ t. t && (eqb d.slot slot && eqb d.number number)) off) small less so)
    ]
  where
    own_round : (k : ℕ) → account ≡ k → credit_of k (Round account r d targets) ≤ 2 ^ 66 → debit_of k (Round account r d targets) ≤ 2 ^ 66
        → IsAccountOf b xs k (sums_at all_sums k)
        → IsAccountOf b (xs ++ published p v (Round account r d targets) ∷ []) k
        (with_round (with_amounts (credit_of k (Round account r d targets)) (debit_of k (Round account r d targets)) (sums_at all_sums k)) r d)
    own_round k same =
        subst (λ k. credit_of k (Round account r d targets) ≤ 2 ^ 66 → debit_of k (Round account r d targets) ≤ 2 ^ 66
        → IsAccountOf b xs k (sums_at all_sums k)
        → IsAccountOf b (xs ++ published p v (Round account r d targets) ∷ []) k
        (with_round (with_amounts (credit_of k (Round account r d targets)) (debit_of k (Round account r d targets)) (sums_at all_sums k)) r d)) same
        (IsAccountOf-round b xs p v account r d targets new (sums_at all_sums account) places.2 places.3 places.4)

-- the sums of a list with the record of a new round, or an own one
pub AreSumsOf-new : (b : BookTerms) (xs : List Publication) (x : Publication) (all_sums after : List AccountSums)
    → repeats x (firsts xs) ≡ false → HasSums all_sums x.entry → ((a : ℕ) → (credit_of a x.entry ≤ 2 ^ 66) × (debit_of a x.entry ≤ 2 ^ 66))
    → length after ≡ length all_sums → ((a : ℕ) → a < length all_sums → sums_at after a ≡ after_entry a x.entry (sums_at all_sums a))
    → AreSumsOf b xs all_sums → AreSumsOf b (xs ++ x ∷ []) after
AreSumsOf-new b xs x all_sums after new places small same so_after so = record {
  sized = same ∙ so.sized;
  accounts = λ a within.
      subst (IsAccountOf b (xs ++ x ∷ []) a) (sym (so_after a (omega (arith, within, so.sized))))
      (IsAccountOf-new b xs x.process x.view x.entry all_sums a new places (small a).0 (small a).1 (so.accounts a within));
}
