-- Where all keep to the plan, the last call of each process answers the value that is chosen.
use Rattle.std.proofs.Common.{◌≡◌, ℕ, ◌+◌, ◌-◌, ◌<◌, ◌≤◌, ◌==◌, ◌&&◌, true, cond, ltb, List, length, take, refl, sym, ap, subst, ◌∙◌, arith, inl, inr}
use Rattle.at_agree.proofs.Prelude.{cases_Bool, eq-eqb, le-leb, ltb-true, take-take, sum_by-take-le, Decision, TargetPair, take-publication_at, IsInitial, IsNextAtMost, one_if, repeats-round, rounds-take_mono, sum_by-firsts_new, IsInitial-IsNextAtMost, balance_after, publication_at, is_own, is_round, is_round_on, firsts, owns_of, repeats, rounds, Entry, Own, Round, Publication, is_round-true, round_position-at, round_position, IsSize, council_book, shared_account, spent_account, value_account, HasProposed, KeepsPlan, chosen, share_of, share_targets, named_account}
use Rattle.at_agree.proofs.SharedBalance.{amount_of-one, spent, credits-shared, opening-shared, stands, whole}
use Rattle.at_agree.proofs.Shown.{IsCouncilList, NamesAnew}
use Rattle.at_agree.proofs.ValueBalance.{balance-value}
use Rattle.at_agree.proofs.VotedReceipts.{StandsAsVoted}

-- the rounds of each prefix are all numbers below their count
next_at_most : (k : ℕ) (list : List Publication) (m : ℕ) (e : Entry) → IsCouncilList k list → m < length list
    → (publication_at list m).entry ≡ e → IsNextAtMost (take m list) e
next_at_most k list m (Own from targets) shown within is = tt
next_at_most k list m (Round account r d targets) shown within is =
    let account_is : account ≡ shared_account k = shown.account m account r d targets within is in
    let round = shown.round m r d targets within (is ∙ ap (λ a. Round a r d targets) account_is) in
    omega (arith, round.at_most, ap (λ a. rounds a (take m list)) account_is)

IsInitial-shown : (k : ℕ) (list : List Publication) (m : ℕ) → IsCouncilList k list → m ≤ length list → (a : ℕ) → IsInitial a (take m list)
IsInitial-shown k list m shown within =
    IsInitial-IsNextAtMost list m (λ i inside. next_at_most k list i (publication_at list i).entry shown inside refl) within

-- the record of a round that stands there already, and of one that doesn't
pub repeats-shown : (k : ℕ) (list : List Publication) (m r : ℕ) (d : Decision) (targets : List TargetPair) → IsCouncilList k list
    → m < length list → (publication_at list m).entry ≡ Round (shared_account k) r d targets
    → repeats (publication_at list m) (firsts (take m list)) ≡ ltb r (rounds (shared_account k) (take m list))
repeats-shown k list m r d targets shown within is =
    let x : Publication = publication_at list m in
    ap (λ (e : Entry). repeats (record { process = x.process; view = x.view; entry = e }) (firsts (take m list))) is
    ∙ repeats-round x.process x.view (shared_account k) r d targets (take m list) (IsInitial-shown k list m shown (omega arith) (shared_account k))

-- a record's round is below the rounds of each prefix that has it
pub round-below : (k : ℕ) (list : List Publication) (m n r : ℕ) (d : Decision) (targets : List TargetPair) → IsCouncilList k list
    → m < n → m < length list → (publication_at list m).entry ≡ Round (shared_account k) r d targets → r < rounds (shared_account k) (take n list)
round-below k list m n r d targets shown before within is =
    let a = shared_account k in
    let x : Publication = publication_at list m in
    let f : Publication → ℕ = λ y. one_if (is_round_on a y.entry) in
    let test = repeats-shown k list m r d targets shown within is in
    let round = shown.round m r d targets within is in
    let more = take-publication_at list m within in
    let here : f x ≡ 1 = ap (λ e. one_if (is_round_on a e)) is ∙ ap one_if (eq-eqb a a refl) in
    elim (cases_Bool (repeats x (firsts (take m list)))) as (λ _. r < rounds a (take n list)) [
      | inl again ↦ omega (arith, ltb-true r (rounds a (take m list)) (sym test ∙ again), rounds-take_mono a m n list (omega arith))
      | inr new ↦
          omega (arith, round.at_most, ap (rounds a) more, sum_by-firsts_new f (take m list) x new, here, rounds-take_mono a (m + 1) n list (omega arith))
    ]

-- when a process reads what is left, some round stands
some_round : (k p value answer : ℕ) (list : List Publication) → IsSize k → IsCouncilList k list → KeepsPlan k list → NamesAnew k list
    → (v : StandsAsVoted k p value answer list) → 1 ≤ rounds (shared_account k) (take v.found list)
some_round k p value answer list size shown planned anew v =
    let a = shared_account k in
    let at : is_round a v.round (publication_at list v.position).entry ≡ true =
    ap (is_round a v.round) v.entry ∙ (λ t. eq-eqb a a refl t && eq-eqb v.round v.round refl t) in
    let first = round_position-at a v.round list v.position v.within at in
    let j = round_position a v.round list in
    let there = is_round-true a v.round (publication_at list j).entry first.here in
    let round = shown.round v.position v.round v.decision (share_targets k p) v.within v.entry in
    elim (cases_Bool v.decision.ok) as (λ _. 1 ≤ rounds a (take v.found list)) [
      | inl ok ↦ omega (arith, round-below k list j v.found v.round there.0 there.1 shown (v.found_done ok) first.within there.2)
      | inr refused ↦
          let later : 1 ≤ v.round = elim (stands k list v.decision.place size shown planned anew round.place_in) as (λ _. 1 ≤ v.round) [
            | whole none untouched ↦
                let covered : v.decision.ok ≡ true = round.ok (omega (arith, untouched, amount_of-one (spent_account k) (share_of k p), opening-shared k)) in
                absurd (cc (sym covered ∙ refused))
            | spent some taken known naming proposed ↦ omega (arith, some, round.next)
          ] in
          omega (arith, later, round.next, rounds-take_mono a v.decision.place v.found list (v.found_short refused))
    ]

pub answered-chosen : (k p value answer : ℕ) (list : List Publication) → IsSize k → IsCouncilList k list → KeepsPlan k list → NamesAnew k list
    → StandsAsVoted k p value answer list → HasProposed k list (chosen k list) answer
answered-chosen k p value answer list size shown planned anew v =
    let a = shared_account k in
    let w = chosen k list in
    elim (stands k list v.found size shown planned anew v.found_in) as (λ _. HasProposed k list w answer) [
      | whole none untouched ↦ absurd (omega (arith, none, some_round k p value answer list size shown planned anew v))
      | spent some taken known naming proposed ↦
          let left_is : v.left ≡ w + 1 =
          omega (arith, v.found_is, taken, known, opening-shared k, credits-shared k list v.found shown planned v.found_in) in
          let account_is : named_account k p v.left ≡ value_account k w =
          (λ t. cond (le-leb 1 v.left (omega (arith, left_is)) t && le-leb v.left k (omega (arith, left_is, known)) t)
          (value_account k (v.left - 1)) (value_account k p))
          ∙ omega (arith, left_is) in
          let owning : Publication → ℕ = λ y. one_if ((y.process == w) && is_own y.entry) in
          let same : take v.found (take v.answered list) ≡ take v.found list = take-take v.found v.answered list v.answered_after in
          let kept : 1 ≤ owns_of w (take v.answered list) =
          omega (arith, proposed, ap (owns_of w) same, sum_by-take-le owning (take v.answered list) v.found) in
          let answer_is : balance_after (council_book k) (take v.answered list) (value_account k w) ≡ answer =
          ap (balance_after (council_book k) (take v.answered list)) (sym account_is) ∙ v.answered_is in
          subst (HasProposed k list w) answer_is (balance-value k list w v.answered known shown planned v.answered_in kept)
    ]
