-- The balance of the shared account: all of it until the first round, and then what the chosen process has left there.
use Rattle.std.proofs.Common.{◌≡◌, ℕ, ◌+◌, ◌*◌, ◌<◌, ◌≤◌, ◌==◌, ◌&&◌, zero, suc, Bool, true, false, cond, List, [], ◌∷◌, ◌++◌, length, take, refl, sym, ap, subst, ◌∙◌, arith, inl, inr}
use Rattle.at_agree.proofs.Prelude.{cases_Bool, cond_both, cases_lt, eq-eqb, ne_eqb, sum_by_push, sum_by, Decision, AccountTerms, account_of, TargetPair, amount_of, take-publication_at, firsts-nil, one_if, sum_by-firsts_new, sum_by-firsts_nothing, sum_by-firsts-take_mono, sum_by-firsts-take_same, amount_for, credit_of, credits, debit_of, debits, publication_at, is_own, is_round, is_round_on, names, AgreeOnRound, firsts, named, owns_of, repeats, rounds, Entry, Own, Round, Publication, is_round-true, round_position-at, round_position, IsSize, council_book, shared_account, spent_account, IsPlanned, KeepsPlan, chosen, share_of, winner_in, winner_of}
use Rattle.at_agree.proofs.CouncilBook.{account_of-shared, owner-shared}
use Rattle.at_agree.proofs.Shown.{IsCouncilList, NamesAnew}

-- a weight that nothing in a prefix has
pub sum_by-firsts_none : (f : Publication → ℕ) (list : List Publication) (m : ℕ) → m ≤ length list
    → ((i : ℕ) → i < m → f (publication_at list i) ≡ 0) → sum_by f (firsts (take m list)) ≡ 0
sum_by-firsts_none f list m within none =
    sum_by-firsts-take_same f list 0 m (omega arith) within (λ i above below. inr (none i below)) ∙ ap (sum_by f) firsts-nil

-- what one target gives an account
pub amount_for-one : (a b v : ℕ) → amount_for a ((b, v) ∷ []) ≡ cond (b == a) v 0
amount_for-one a b v = omega arith

pub amount_of-one : (b v : ℕ) → amount_of ((b, v) ∷ []) ≡ v
amount_of-one b v = omega arith

-- a record that is planned gives the shared account nothing
credit_of-shared : (k : ℕ) (before : List Publication) (p : ℕ) (e : Entry) → p < k → IsPlanned k before p e → credit_of (shared_account k) e ≡ 0
credit_of-shared k before p (Own from targets) known (value, from_is, targets_is) =
    ap (amount_for (2 * k)) targets_is ∙ (amount_for-one (2 * k) (k + p) value
    ∙ ap (λ t. cond t value 0) (ne_eqb (k + p) (2 * k) (λ e. omega (arith, e, known))))
credit_of-shared k before p (Round account round d targets) known (account_is, targets_is, proposed) =
    let c = share_of k (winner_of k d) in
    let none : amount_for (2 * k) targets ≡ 0 = ap (amount_for (2 * k)) targets_is ∙ (amount_for-one (2 * k) (2 * k + 1) c
    ∙ ap (λ t. cond t c 0) (ne_eqb (2 * k + 1) (2 * k) (λ e. omega (arith, e)))) in
    ap (λ n. cond d.ok n 0) none ∙ cond_both {A = ℕ} d.ok 0 0 (λ n. n ≡ 0) (λ e. refl) (λ e. refl)

-- an own record takes nothing from it, and a round what its winner asks for, where it succeeds
debit_of-shared_own : (k : ℕ) (before : List Publication) (p from : ℕ) (targets : List TargetPair) → p < k
    → IsPlanned k before p (Own from targets) → debit_of (shared_account k) (Own from targets) ≡ 0
debit_of-shared_own k before p from targets known (value, from_is, targets_is) =
    ap (λ t. cond t (amount_of targets) 0) (ne_eqb from (2 * k) (λ e. omega (arith, e, from_is, known)))

debit_of-shared_round : (k : ℕ) (before : List Publication) (p round : ℕ) (d : Decision) (targets : List TargetPair)
    → IsPlanned k before p (Round (shared_account k) round d targets)
    → debit_of (shared_account k) (Round (shared_account k) round d targets) ≡ cond d.ok (share_of k (winner_of k d)) 0
debit_of-shared_round k before p round d targets (account_is, targets_is, proposed) =
    let whole : amount_of targets ≡ share_of k (winner_of k d) = ap amount_of targets_is ∙ amount_of-one (spent_account k) (share_of k (winner_of k d)) in
    both d.ok (2 * k == 2 * k) (eq-eqb (2 * k) (2 * k) refl) ∙ ap (λ n. cond d.ok n 0) whole
  where
    both : (ok same : Bool) → same ≡ true → cond (ok && same) (amount_of targets) 0 ≡ cond ok (amount_of targets) 0
    both true same is = ap (λ t. cond t (amount_of targets) 0) is
    both false same is = refl

-- the first record of round 0 says who is chosen
pub chosen-round : (k : ℕ) (list : List Publication) (m : ℕ) (d : Decision) (targets : List TargetPair) → IsCouncilList k list
    → m < length list → (publication_at list m).entry ≡ Round (shared_account k) 0 d targets → chosen k list ≡ winner_of k d
chosen-round k list m d targets shown within is =
    let a = shared_account k in
    let here : is_round a 0 (publication_at list m).entry ≡ true =
    ap (is_round a 0) is ∙ (λ t. eq-eqb a a refl t && (0 == 0)) in
    let first = round_position-at a 0 list m within here in
    let j = round_position a 0 list in
    let found = is_round-true a 0 (publication_at list j).entry first.here in
    let agree : AgreeOnRound (Round a 0 found.0 found.1) (Round a 0 d targets) =
    subst (λ e. AgreeOnRound (Round a 0 found.0 found.1) e) is
    (subst (λ e. AgreeOnRound e (publication_at list m).entry) found.2 (shown.agree j m first.within within)) in
    ap (winner_in k) found.2 ∙ ap (winner_of k) (agree refl refl).0

-- what stands of the shared account after a prefix: no round, or the first one, which was done, and its winner has proposed there
pub data Stands (k : ℕ) (list : List Publication) (m : ℕ) : Type 0 where
  whole : rounds (shared_account k) (take m list) ≡ 0 → debits (shared_account k) (take m list) ≡ 0 → Stands k list m
  spent : 1 ≤ rounds (shared_account k) (take m list) → debits (shared_account k) (take m list) ≡ share_of k (chosen k list)
      → chosen k list < k → 1 ≤ named (shared_account k) (chosen k list) (take m list) → 1 ≤ owns_of (chosen k list) (take m list)
      → Stands k list m

-- own records of a process are only gained
pub owns_of-more : (p : ℕ) (xs : List Publication) (x : Publication) → owns_of p xs ≤ owns_of p (xs ++ x ∷ [])
owns_of-more p xs x = omega (arith, sum_by_push (λ (y : Publication). one_if ((y.process == p) && is_own y.entry)) xs x)

-- one more publication that neither is a new round nor takes anything
stands_still : (k : ℕ) (list : List Publication) (m : ℕ) → m < length list → Stands k list m
    → ((f : Publication → ℕ) → (is_round_on (shared_account k) (publication_at list m).entry ≡ false → f (publication_at list m) ≡ 0)
    → sum_by f (firsts (take m list ++ publication_at list m ∷ [])) ≡ sum_by f (firsts (take m list)))
    → (is_round_on (shared_account k) (publication_at list m).entry ≡ false → debit_of (shared_account k) (publication_at list m).entry ≡ 0)
    → Stands k list (m + 1)
stands_still k list m within before still light =
    let a = shared_account k in
    let x : Publication = publication_at list m in
    let w = chosen k list in
    let more = take-publication_at list m within in
    let on : Publication → ℕ = λ y. one_if (is_round_on a y.entry) in
    let takes : Publication → ℕ = λ y. debit_of a y.entry in
    let naming : Publication → ℕ = λ y. one_if (names a w y.entry) in
    let rounds_is : rounds a (take (m + 1) list) ≡ rounds a (take m list) = ap (rounds a) more ∙ still on (λ off. ap one_if off) in
    let debits_is : debits a (take (m + 1) list) ≡ debits a (take m list) = ap (debits a) more ∙ still takes light in
    let named_is : named a w (take (m + 1) list) ≡ named a w (take m list) =
    ap (named a w) more ∙ still naming (λ off. ap one_if (names_off a w x.entry off)) in
    let owns_is : owns_of w (take m list) ≤ owns_of w (take (m + 1) list) =
    omega (arith, owns_of-more w (take m list) x, ap (owns_of w) more) in
    elim before as (λ _. Stands k list (m + 1)) [
      | whole none untouched ↦ whole (rounds_is ∙ none) (debits_is ∙ untouched)
      | spent some taken known naming_one proposed ↦
          spent (omega (arith, some, rounds_is)) (debits_is ∙ taken) known (omega (arith, naming_one, named_is)) (omega (arith, proposed, owns_is))
    ]
  where
    names_off : (a slot : ℕ) (e : Entry) → is_round_on a e ≡ false → names a slot e ≡ false
    names_off a slot (Own from targets) off = refl
    names_off a slot (Round account round d targets) off = ap (λ t. t && (d.slot == slot)) off

-- nothing is ever paid into the shared account
pub credits-shared : (k : ℕ) (list : List Publication) (m : ℕ) → IsCouncilList k list → KeepsPlan k list → m ≤ length list
    → credits (shared_account k) (take m list) ≡ 0
credits-shared k list m shown planned within =
    sum_by-firsts_none (λ y. credit_of (shared_account k) y.entry) list m within (λ i below.
    let x : Publication = publication_at list i in
    credit_of-shared k (take i list) x.process x.entry (shown.known i (omega arith)) (planned i (omega arith)))

pub opening-shared : (k : ℕ) → (account_of (council_book k) (shared_account k)).opening ≡ 2 * k
opening-shared k = ap (λ (t : AccountTerms). t.opening) (account_of-shared k)

-- one more publication that is a new round
module _ (k : ℕ) (list : List Publication) (m r : ℕ) (d : Decision) (targets : List TargetPair) where
  stands_asked : IsSize k → IsCouncilList k list → KeepsPlan k list → NamesAnew k list → m < length list
      → (publication_at list m).entry ≡ Round (shared_account k) r d targets
      → repeats (publication_at list m) (firsts (take m list)) ≡ false → Stands k list m → Stands k list (m + 1)
  stands_asked size shown planned anew within is new before =
      let a = shared_account k in
      let x : Publication = publication_at list m in
      let w = chosen k list in
      let round = shown.round m r d targets within is in
      let plan : IsPlanned k (take m list) x.process (Round a r d targets) = subst (IsPlanned k (take m list) x.process) is (planned m within) in
      let q_is : winner_of k d ≡ d.slot = owner-shared k d.slot round.slot_in in
      let more = take-publication_at list m within in
      let on : Publication → ℕ = λ y. one_if (is_round_on a y.entry) in
      let takes : Publication → ℕ = λ y. debit_of a y.entry in
      let here : on x ≡ 1 = ap (λ e. one_if (is_round_on a e)) is ∙ ap one_if (eq-eqb a a refl) in
      let takes_here : takes x ≡ cond d.ok (share_of k (winner_of k d)) 0 =
      ap (debit_of a) is ∙ debit_of-shared_round k (take m list) x.process r d targets plan in
      let names_here : one_if (names a d.slot x.entry) ≡ 1 =
      ap (λ e. one_if (names a d.slot e)) is ∙ (λ t. one_if (eq-eqb a a refl t && eq-eqb d.slot d.slot refl t)) in
      let rounds_is : rounds a (take (m + 1) list) ≡ rounds a (take m list) + 1 =
      omega (arith, ap (rounds a) more, sum_by-firsts_new on (take m list) x new, here) in
      let debits_is : debits a (take (m + 1) list) ≡ debits a (take m list) + cond d.ok (share_of k (winner_of k d)) 0 =
      omega (arith, ap (debits a) more, sum_by-firsts_new takes (take m list) x new, takes_here) in
      let named_here : named a d.slot (take (m + 1) list) ≡ named a d.slot (take m list) + 1 =
      omega (arith, ap (named a d.slot) more, sum_by-firsts_new (λ y. one_if (names a d.slot y.entry)) (take m list) x new, names_here) in
      let owns_is : (p : ℕ) → owns_of p (take m list) ≤ owns_of p (take (m + 1) list) =
      λ p. omega (arith, owns_of-more p (take m list) x, ap (owns_of p) more) in
      let share_is : amount_of targets ≡ share_of k (winner_of k d) =
      ap amount_of plan.1 ∙ amount_of-one (spent_account k) (share_of k (winner_of k d)) in
      elim before as (λ _. Stands k list (m + 1)) [
        | whole none untouched ↦
            let first : r ≡ 0 = omega (arith, round.at_most, none) in
            let behind : d.place ≤ m = elim (cases_lt m d.place) as (λ _. d.place ≤ m) [
              | inl later ↦ absurd (omega (arith, round.next, first, rounds_is, none, sum_by-firsts-take_mono on list (m + 1) d.place (omega (arith, later))))
              | inr early ↦ early
            ] in
            let free : debits a (take d.place list) ≡ 0 = omega (arith, untouched, sum_by-firsts-take_mono takes list d.place m behind) in
            let ok : d.ok ≡ true = round.ok (omega (arith, free, share_is, opening-shared k)) in
            let chosen_is : w ≡ winner_of k d = chosen-round k list m d targets shown within (is ∙ ap (λ n. Round a n d targets) first) in
            let taken : debits a (take (m + 1) list) ≡ share_of k w =
            omega (arith, debits_is, untouched, ap (λ t. cond t (share_of k (winner_of k d)) 0) ok, ap (share_of k) chosen_is) in
            let slot_is : w ≡ d.slot = chosen_is ∙ q_is in
            spent (omega (arith, rounds_is)) taken (omega (arith, slot_is, round.slot_in))
            (omega (arith, named_here, ap (λ s. named a s (take (m + 1) list)) slot_is))
            (omega (arith, owns_is w, plan.2, ap (λ p. owns_of p (take m list)) chosen_is))
        | spent some taken known naming_one proposed ↦
            let late : d.ok ≡ false = elim (cases_Bool d.ok) as (λ _. d.ok ≡ false) [
              | inl ok ↦
                  let room = shown.covered (m + 1) (omega arith) in
                  let both : debits a (take (m + 1) list) ≡ share_of k w + share_of k (winner_of k d) =
                  omega (arith, debits_is, taken, ap (λ t. cond t (share_of k (winner_of k d)) 0) ok) in
                  let same : w ≡ d.slot =
                  omega (arith, both, room, opening-shared k, credits-shared k list (m + 1) shown planned (omega arith), known, round.slot_in, q_is) in
                  absurd (omega (arith, naming_one, anew m r d targets within is new, ap (λ s. named a s (take m list)) same))
              | inr refused ↦ refused
            ] in
            spent (omega (arith, some, rounds_is)) (omega (arith, debits_is, taken, ap (λ t. cond t (share_of k (winner_of k d)) 0) late)) known
            (omega (arith, naming_one, sum_by-firsts-take_mono (λ y. one_if (names a w y.entry)) list m (m + 1) (omega arith)))
            (omega (arith, proposed, owns_is w))
      ]

-- one more publication of any kind
stands-more : (k : ℕ) (list : List Publication) (m : ℕ) (e : Entry) → IsSize k → IsCouncilList k list → KeepsPlan k list → NamesAnew k list
    → m < length list → (publication_at list m).entry ≡ e → Stands k list m → Stands k list (m + 1)
stands-more k list m (Own from targets) size shown planned anew within is before =
    let a = shared_account k in
    let x : Publication = publication_at list m in
    let plan : IsPlanned k (take m list) x.process (Own from targets) = subst (IsPlanned k (take m list) x.process) is (planned m within) in
    let off : is_round_on a x.entry ≡ false = ap (is_round_on a) is in
    stands_still k list m within before (λ f weightless. sum_by-firsts_nothing f (take m list) x (inr (weightless off)))
    (λ _. ap (debit_of a) is ∙ debit_of-shared_own k (take m list) x.process from targets (shown.known m within) plan)
stands-more k list m (Round account r d targets) size shown planned anew within is before =
    let a = shared_account k in
    let x : Publication = publication_at list m in
    let account_is : account ≡ a = shown.account m account r d targets within is in
    let on : is_round_on a x.entry ≡ true = ap (is_round_on a) is ∙ eq-eqb account a account_is in
    elim (cases_Bool (repeats x (firsts (take m list)))) as (λ _. Stands k list (m + 1)) [
      | inl again ↦
          stands_still k list m within before (λ f weightless. sum_by-firsts_nothing f (take m list) x (inl again))
          (λ off. absurd (cc (sym on ∙ off)))
      | inr new ↦ stands_asked k list m r d targets size shown planned anew within (is ∙ ap (λ c. Round c r d targets) account_is) new before
    ]

pub stands : (k : ℕ) (list : List Publication) (m : ℕ) → IsSize k → IsCouncilList k list → KeepsPlan k list → NamesAnew k list
    → m ≤ length list → Stands k list m
stands k list zero size shown planned anew within =
    whole (sum_by-firsts_none (λ y. one_if (is_round_on (shared_account k) y.entry)) list 0 within (λ i below. absurd (omega arith)))
    (sum_by-firsts_none (λ y. debit_of (shared_account k) y.entry) list 0 within (λ i below. absurd (omega arith)))
stands k list (suc m) size shown planned anew within =
    let e : m + 1 ≡ suc m = omega arith in
    subst (Stands k list) e
    (stands-more k list m (publication_at list m).entry size shown planned anew (omega arith) refl
    (stands k list m size shown planned anew (omega arith)))
