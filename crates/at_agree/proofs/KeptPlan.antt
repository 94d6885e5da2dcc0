-- Where each process has made its four calls, the whole list keeps to the plan.
use Rattle.std.proofs.Common.{◌≡◌, ◌≢◌, ℕ, ◌+◌, ◌<◌, ◌≤◌, ◌==◌, ◌&&◌, true, false, List, length, take, get_or, refl, sym, ap, subst, ◌∙◌, arith, inl, inr}
use Rattle.at_agree.proofs.Prelude.{cases_Bool, cases_lt, cases_order, eq-eqb, get_or-take, get_or_default, length-take, take-take, take_all, take_more, list_any_none, get_or-le-sum_by, sum_by-take-le, sum_by_push, sum_by, Decision, TargetPair, take-publication_at, repeats-firsts, one_if, sum_by-firsts_new, sum_by-firsts-take_mono, publication_at, is_own, is_round, is_same_round, names, AgreeOnRound, no_publication, firsts, named, owns_of, repeats, Entry, Own, Round, Publication, is_round-true, IsRoundAt, round_position-at, round_position, shared_account, IsPlanned, KeepsPlan, share_targets, value_targets, winner_of}
use Rattle.at_agree.proofs.Answered.{round-below}
use Rattle.at_agree.proofs.CouncilBook.{owner-shared}
use Rattle.at_agree.proofs.Shown.{IsCouncilList, NamesAnew}
use Rattle.at_agree.proofs.VotedReceipts.{StandsAsVoted}

-- all votes of a council
abbrev pub AllVoted : ℕ → List Publication → Type 0
AllVoted k list = (p : ℕ) → p < k → (value : ℕ) × (answer : ℕ) × StandsAsVoted k p value answer list

-- one more record that names a slot anew
named_more : (k : ℕ) (list : List Publication) (m r : ℕ) (d : Decision) (targets : List TargetPair) → m < length list
    → (publication_at list m).entry ≡ Round (shared_account k) r d targets → repeats (publication_at list m) (firsts (take m list)) ≡ false
    → named (shared_account k) d.slot (take (m + 1) list) ≡ named (shared_account k) d.slot (take m list) + 1
named_more k list m r d targets within is new =
    let a = shared_account k in
    let x : Publication = publication_at list m in
    let here : one_if (names a d.slot x.entry) ≡ 1 =
    ap (λ e. one_if (names a d.slot e)) is ∙ (λ t. one_if (eq-eqb a a refl t && eq-eqb d.slot d.slot refl t)) in
    omega (
      arith,
      ap (named a d.slot) (take-publication_at list m within),
      sum_by-firsts_new (λ y. one_if (names a d.slot y.entry)) (take m list) x new,
      here,
    )

pub NamesAnew-AllVoted : (k : ℕ) (list : List Publication) → IsCouncilList k list → AllVoted k list → NamesAnew k list
NamesAnew-AllVoted k list shown voted =
    λ m r d targets within is new.
    let a = shared_account k in
    let round = shown.round m r d targets within is in
    let vote = (voted d.slot round.slot_in).2 in
    omega (
      arith,
      vote.named_one,
      named_more k list m r d targets within is new,
      sum_by-firsts-take_mono (λ y. one_if (names a d.slot y.entry)) list (m + 1) (length list) (omega (arith, within)),
      ap (named a d.slot) (take_all (length list) list (omega arith)),
    )

-- what is counted at two positions is counted twice
pub two_counted : (f : Publication → ℕ) (list : List Publication) (i j : ℕ) → i < j → j < length list → 1 ≤ f (publication_at list i)
    → 1 ≤ f (publication_at list j) → 2 ≤ sum_by f list
two_counted f list i j before within one other =
    let here = ap (sum_by f) (take_more list i no_publication (omega arith)) ∙ sum_by_push f (take i list) (publication_at list i) in
    let there = ap (sum_by f) (take_more list j no_publication within) ∙ sum_by_push f (take j list) (publication_at list j) in
    let kept = ap (sum_by f) (take-take (i + 1) j list (omega (arith, before))) in
    omega (arith, here, there, kept, sum_by-take-le f (take j list) (i + 1), sum_by-take-le f list (j + 1), one, other)

-- a process's one own record is that of its value
planned_own : (k p from : ℕ) (list : List Publication) (m : ℕ) (targets : List TargetPair) → IsCouncilList k list → AllVoted k list
    → m < length list → (publication_at list m).process ≡ p → (publication_at list m).entry ≡ Own from targets
    → IsPlanned k (take m list) p (Own from targets)
planned_own k p from list m targets shown voted within process_is is =
    let known : p < k = omega (arith, shown.known m within, process_is) in
    let all = voted p known in
    let vote = all.2 in
    let j = vote.paid.position in
    let f : Publication → ℕ = λ y. one_if ((y.process == p) && is_own y.entry) in
    let here : f (publication_at list m) ≡ 1 = λ t. one_if (eq-eqb (publication_at list m).process p process_is t && is_own (is t)) in
    let there : f (publication_at list j) ≡ 1 = λ t. one_if (eq-eqb (publication_at list j).process p vote.paid.process_is t && is_own (vote.paid.entry t)) in
    let same : m ≡ j = elim (cases_order m j) as (λ _. m ≡ j) [
      | inl equal ↦ equal
      | inr other ↦ elim other as (λ _. m ≡ j) [
        | inl below ↦ absurd (omega (arith, two_counted f list m j below vote.paid.within (omega (arith, here)) (omega (arith, there)), vote.owns_one))
        | inr above ↦ absurd (omega (arith, two_counted f list j m above within (omega (arith, there)) (omega (arith, here)), vote.owns_one))
      ]
    ] in
    let entry : Own from targets ≡ Own p (value_targets k p all.0) =
    sym is ∙ (ap (λ n. (publication_at list n).entry) same ∙ vote.paid.entry) in
    (all.0, cc entry, cc entry)

-- the first record of a round, and the slot that it names
record IsFirstFor (k : ℕ) (list : List Publication) (r slot j : ℕ) : Type 0 where
  pub within : j < length list
  pub decision : Decision
  pub targets : List TargetPair
  pub entry : (publication_at list j).entry ≡ Round (shared_account k) r decision targets
  pub slot_is : decision.slot ≡ slot
  pub new : repeats (publication_at list j) (firsts (take j list)) ≡ false

round_at : (k : ℕ) (list : List Publication) (m r : ℕ) (d : Decision) (targets : List TargetPair) → m < length list
    → (publication_at list m).entry ≡ Round (shared_account k) r d targets
    → IsRoundAt (shared_account k) r list (round_position (shared_account k) r list)
round_at k list m r d targets within is =
    let a = shared_account k in
    round_position-at a r list m within (ap (is_round a r) is ∙ (λ t. eq-eqb a a refl t && eq-eqb r r refl t))

first_for : (k : ℕ) (list : List Publication) (m r : ℕ) (d : Decision) (targets : List TargetPair) → IsCouncilList k list → m < length list
    → (publication_at list m).entry ≡ Round (shared_account k) r d targets
    → IsFirstFor k list r d.slot (round_position (shared_account k) r list)
first_for k list m r d targets shown within is =
    let a = shared_account k in
    let j = round_position a r list in
    let first = round_at k list m r d targets within is in
    let found = is_round-true a r (publication_at list j).entry first.here in
    let agree : AgreeOnRound (Round a r found.0 found.1) (Round a r d targets) =
    subst (λ e. AgreeOnRound (Round a r found.0 found.1) e) is
    (subst (λ e. AgreeOnRound e (publication_at list m).entry) found.2 (shown.agree j m first.within within)) in
    record {
      within = first.within;
      decision = found.0;
      targets = found.1;
      entry = found.2;
      slot_is = ap (λ (x : Decision). x.slot) (agree refl refl).0;
      new = repeats-firsts (publication_at list j) (take j list)
          ∙ list_any_none (λ y. is_same_round (publication_at list j).entry y.entry) (take j list) (λ i e below.
          let early : i < j = omega (arith, below, length-take j list) in
          let there : get_or (take j list) i e ≡ publication_at list i =
          get_or-take j list i e early ∙ get_or_default list i e no_publication (omega (arith, early, first.within)) in
          (λ t. is_same_round (found.2 t) (there t).entry) ∙ first.first i early);
    }

-- one slot has one round
one_round : (k : ℕ) (list : List Publication) (r s slot i j : ℕ) → NamesAnew k list → IsFirstFor k list r slot i → IsFirstFor k list s slot j → i < j → ⊥
one_round k list r s slot i j anew one other before =
    let a = shared_account k in
    let none = anew j s other.decision other.targets other.within other.entry other.new in
    let some = named_more k list i r one.decision one.targets one.within one.entry one.new in
    omega (
      arith,
      none,
      some,
      ap (λ n. named a n (take j list)) (other.slot_is ∙ sym one.slot_is),
      sum_by-firsts-take_mono (λ y. one_if (names a one.decision.slot y.entry)) list (i + 1) j (omega (arith, before)),
    )

same_round : (k : ℕ) (list : List Publication) (r s slot : ℕ) → NamesAnew k list → IsFirstFor k list r slot (round_position (shared_account k) r list)
    → IsFirstFor k list s slot (round_position (shared_account k) s list) → r ≡ s
same_round k list r s slot anew one other =
    let a = shared_account k in
    let i = round_position a r list in
    let j = round_position a s list in
    elim (cases_order i j) as (λ _. r ≡ s) [
      | inl equal ↦
          let entry : Round a r one.decision one.targets ≡ Round a s other.decision other.targets =
          sym one.entry ∙ (ap (λ n. (publication_at list n).entry) equal ∙ other.entry) in
          cc entry
      | inr apart ↦ elim apart as (λ _. r ≡ s) [
        | inl below ↦ absurd (one_round k list r s slot i j anew one other below)
        | inr above ↦ absurd (one_round k list s r slot j i anew other one above)
      ]
    ]

-- a round is of the request of its winner, who has proposed before
planned_round : (k r : ℕ) (list : List Publication) (m : ℕ) (d : Decision) (targets : List TargetPair) (q : ℕ) → IsCouncilList k list → AllVoted k list
    → m < length list → (publication_at list m).entry ≡ Round (shared_account k) r d targets
    → IsPlanned k (take m list) q (Round (shared_account k) r d targets)
planned_round k r list m d targets q shown voted within is =
    let a = shared_account k in
    let law = shown.round m r d targets within is in
    let p = d.slot in
    let all = voted p law.slot_in in
    let vote = all.2 in
    let winner_is : winner_of k d ≡ p = owner-shared k p law.slot_in in
    let first = first_for k list m r d targets shown within is in
    let theirs = first_for k list vote.position vote.round vote.decision (share_targets k p) shown vote.within vote.entry in
    let its : IsFirstFor k list vote.round p (round_position a vote.round list) =
    subst (λ s. IsFirstFor k list vote.round s (round_position a vote.round list)) vote.slot_is theirs in
    let round_is : r ≡ vote.round = same_round k list r vote.round p (NamesAnew-AllVoted k list shown voted) first its in
    let agree : AgreeOnRound (Round a r d targets) (Round a vote.round vote.decision (share_targets k p)) =
    subst (λ e. AgreeOnRound (Round a r d targets) e) vote.entry
    (subst (λ e. AgreeOnRound e (publication_at list vote.position).entry) is (shown.agree m vote.position within vote.within)) in
    let same = agree refl round_is in
    let j = vote.paid.position in
    let at = round_at k list m r d targets within is in
    let apart : j ≢ m = λ here.
    let wrong : Own p (value_targets k p all.0) ≡ Round a r d targets = sym vote.paid.entry ∙ (ap (λ n. (publication_at list n).entry) here ∙ is) in
    cc wrong in
    let first_below : round_position a r list ≤ m = elim (cases_lt m (round_position a r list)) as (λ _. round_position a r list ≤ m) [
      | inl early ↦
          let test : is_round a r (publication_at list m).entry ≡ true = ap (is_round a r) is ∙ (λ t. eq-eqb a a refl t && eq-eqb r r refl t) in
          absurd (cc (sym test ∙ at.first m early))
      | inr late ↦ late
    ] in
    let before : j < m = elim (cases_Bool vote.decision.ok) as (λ _. j < m) [
      | inl ok ↦ omega (arith, vote.paid_done ok, ap (λ n. round_position a n list) round_is, first_below, apart)
      | inr refused ↦ elim (cases_lt m vote.decision.place) as (λ _. j < m) [
        | inl early ↦
            let theirs_next = (shown.round vote.position vote.round vote.decision (share_targets k p) vote.within vote.entry).next in
            absurd (omega (arith, round-below k list m vote.decision.place r d targets shown early within is, theirs_next, round_is))
        | inr late ↦ omega (arith, vote.paid_short refused, late)
      ]
    ] in
    let f : Publication → ℕ = λ y. one_if ((y.process == p) && is_own y.entry) in
    let there : f (publication_at list j) ≡ 1 = λ t. one_if (eq-eqb (publication_at list j).process p vote.paid.process_is t && is_own (vote.paid.entry t)) in
    let counted : 1 ≤ owns_of p (take m list) =
    omega (
      arith,
      there,
      ap f (get_or-take m list j no_publication before),
      get_or-le-sum_by f (take m list) j no_publication (omega (arith, before, length-take m list, within)),
    ) in
    (refl, same.1 ∙ ap (share_targets k) (sym winner_is), omega (arith, counted, ap (λ n. owns_of n (take m list)) winner_is))

planned_entry : (k : ℕ) (list : List Publication) (m : ℕ) (e : Entry) → IsCouncilList k list → AllVoted k list → m < length list
    → (publication_at list m).entry ≡ e → IsPlanned k (take m list) (publication_at list m).process e
planned_entry k list m (Own from targets) shown voted within is =
    planned_own k (publication_at list m).process from list m targets shown voted within refl is
planned_entry k list m (Round account r d targets) shown voted within is =
    let q = (publication_at list m).process in
    let account_is : account ≡ shared_account k = shown.account m account r d targets within is in
    subst (λ a. IsPlanned k (take m list) q (Round a r d targets)) (sym account_is)
    (planned_round k r list m d targets q shown voted within (is ∙ ap (λ a. Round a r d targets) account_is))

pub KeepsPlan-AllVoted : (k : ℕ) (list : List Publication) → IsCouncilList k list → AllVoted k list → KeepsPlan k list
KeepsPlan-AllVoted k list shown voted = λ m within. planned_entry k list m (publication_at list m).entry shown voted within refl
