-- Totals that have counted nothing.
use Rattle.std.proofs.Common.{◌≡◌, ℕ, ◌+◌, zero, suc, false, List, [], ◌++◌, length, map, replicate, take, refl, sym, ap, subst, ◌∙◌, arith}
use Rattle.std.specs.Prelude.{None}
use Rattle.at_fold.proofs.Prelude.{get_or-replicate, length-replicate, get_or-map-range_with_len, length-map-range_with_len, flat_map, range_with_len, sum_by, rounds_room, slots_of, BookTerms, IsBook, account_of, firsts-nil, one_if, get_or-zeros, credit_of, debit_of, is_round_on, names, publications_of, Publication, IsSettledSo, counted_records, AreSumsOf, HasCounted, IsAccountOf, IsSlotOf, no_sums, no_slot, starting_sums, starting_slot}
use Rattle.at_fold.proofs.Laws.CountedRecords.{part}

counted_records-zeros : (n : ℕ) (list : List Publication) → counted_records (replicate n 0) list ≡ []
unfolding counted_records
counted_records-zeros n list = nothing 0 (length (replicate n 0))
  where
    nothing : (a k : ℕ) → flat_map (part (replicate n 0) list) (range_with_len a k) ≡ []
    nothing a zero = refl
    nothing a (suc k) =
        ap (λ i. take i (publications_of a list) ++ flat_map (part (replicate n 0) list) (range_with_len (a + 1) k)) (get_or-zeros n a)
        ∙ nothing (a + 1) k

IsSlotOf-starting : (b : BookTerms) (a slot : ℕ) → IsSlotOf b [] a slot (starting_slot b.request_room)
IsSlotOf-starting b a slot = record {
  done = ap (sum_by (λ x. one_if (names a slot x.entry))) (sym firsts-nil);
  room = length-replicate b.request_room None;
  settled = λ number within. subst (IsSettledSo [] a slot number) (sym (get_or-replicate b.request_room number None None within)) refl;
}

IsAccountOf-starting : (b : BookTerms) (a : ℕ) → IsAccountOf b [] a (starting_sums b a)
IsAccountOf-starting b a =
    let room = rounds_room b.request_room (account_of b a) in
    let slots = slots_of (account_of b a) in
    record {
      opening = refl;
      credits = ap (sum_by (λ x. credit_of a x.entry)) (sym firsts-nil);
      debits = ap (sum_by (λ x. debit_of a x.entry)) (sym firsts-nil);
      small_credits = omega arith;
      small_debits = omega arith;
      rounds = ap (sum_by (λ x. one_if (is_round_on a x.entry))) (sym firsts-nil);
      room = length-replicate room false;
      is_counted = λ r within. get_or-replicate room r false false within;
      slots_room = length-replicate slots (starting_slot b.request_room);
      slots = λ slot within.
          subst (IsSlotOf b [] a slot) (sym (get_or-replicate slots slot (starting_slot b.request_room) no_slot within)) (IsSlotOf-starting b a slot);
    }

pub HasCounted-starting : (b : BookTerms) (seen : List Publication) → IsBook b
    → HasCounted (record { upto = replicate b.processes 0; accounts = map (starting_sums b) (range_with_len 0 (length b.accounts)) }) b seen
HasCounted-starting b seen book =
    let all_sums = map (starting_sums b) (range_with_len 0 (length b.accounts)) in
    let sums : AreSumsOf b [] all_sums = record {
      sized = length-map-range_with_len (starting_sums b) 0 (length b.accounts);
      accounts = λ a within.
          subst (IsAccountOf b [] a) (sym (get_or-map-range_with_len (starting_sums b) 0 (length b.accounts) a a no_sums within (omega arith)))
          (IsAccountOf-starting b a);
    } in
    record {
      book = book;
      processes = length-replicate b.processes 0;
      within = λ p below. omega (arith, get_or-zeros b.processes p);
      sums = subst (λ list. AreSumsOf b list all_sums) (sym (counted_records-zeros b.processes seen)) sums;
    }
