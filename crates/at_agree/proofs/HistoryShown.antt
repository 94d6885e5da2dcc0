-- What a voice has seen shows what a council's list shows, and names each slot once.
use Rattle.std.proofs.Common.{◌≡◌, ℕ, List, take, sym, subst, ◌∙◌, arith}
use Rattle.at_agree.proofs.Prelude.{ltb-false, IsNextAtMost-IsHistory, named-rounds, IsNextAtMost, publication_at, prefix_of, IsHistory, IsShownDecision, IsShownEntry, rounds, Publication, IsSize, council_book, shared_account}
use Rattle.at_agree.proofs.Answered.{repeats-shown}
use Rattle.at_agree.proofs.CouncilBook.{is_shared-only, is_single-own, length-accounts, owner-own, slots_of-shared}
use Rattle.at_agree.proofs.Shown.{IsCouncilList, NamesAnew}

pub IsCouncilList-IsHistory : (k : ℕ) (list : List Publication) → IsSize k → IsHistory (council_book k) list → IsCouncilList k list
IsCouncilList-IsHistory k list size history =
    let b = council_book k in
    let a = shared_account k in
    record {
      known = λ m within. (history.views m within).process;
      own = λ m from targets within is.
          let x : Publication = publication_at list m in
          let law = subst (IsShownEntry b x.process (prefix_of x.view list)) is (history.entries m within) in
          owner-own k from x.process (is_single-own k from size.some law.source_in law.single) law.owner;
      account = λ m c r d targets within is.
          let x : Publication = publication_at list m in
          let law = subst (IsShownEntry b x.process (prefix_of x.view list)) is (history.entries m within) in
          is_shared-only k c law.0.account_in law.0.shared;
      round = λ m r d targets within is.
          let x : Publication = publication_at list m in
          let law = subst (IsShownEntry b x.process (prefix_of x.view list)) is (history.entries m within) in
          let shown = subst (IsShownDecision b list) is (history.decisions m within) in
          record {
            slot_in = omega (arith, law.3, slots_of-shared k size.some);
            at_most = subst (IsNextAtMost (take m list)) is (IsNextAtMost-IsHistory b list m history within);
            place_in = shown.place;
            next = shown.next;
            ok = shown.ok.1;
          };
      agree = history.agree;
      covered = λ m within. (history.runs m within).covered a (omega (arith, length-accounts k));
      own_room = history.own_room;
    }

pub NamesAnew-IsHistory : (k : ℕ) (list : List Publication) → IsSize k → IsHistory (council_book k) list → NamesAnew k list
NamesAnew-IsHistory k list size history =
    λ m r d targets within is new.
    let a = shared_account k in
    let shown = IsCouncilList-IsHistory k list size history in
    let round = shown.round m r d targets within is in
    let law = subst (IsShownDecision (council_book k) list) is (history.decisions m within) in
    let at : rounds a (take m list) ≡ r =
    omega (arith, round.at_most, ltb-false r (rounds a (take m list)) (sym (repeats-shown k list m r d targets shown within is) ∙ new)) in
    omega (arith, law.number, law.number_in, named-rounds a d.slot d.place m list law.place (omega (arith, within)) (law.next ∙ sym at))
