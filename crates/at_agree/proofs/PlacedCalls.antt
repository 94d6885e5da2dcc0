-- Where the two payments of a process stand: the payment of its value at an own record, and its request in a round.
use Rattle.std.proofs.Common.{◌≡◌, ℕ, ◌*◌, ◌^◌, ◌<◌, ◌≤◌, ◌==◌, ◌&&◌, ◌||◌, Bool, true, false, cond, List, [], length, take, refl, sym, ap, subst, ◌∙◌, arith, inl, inr}
use Rattle.std.specs.Prelude.{Some}
use Rattle.at_agree.proofs.Prelude.{cases_lt, eq-eqb, ne_eqb, take_all, get_or-le-sum_by, sum_by, AccountTerms, is_shared, is_single, account_of, is_owner, TargetPair, amount_of, payout_of, Transfer, Done, Short, get_or-publications_of, one_if, balance_after, debit_of, debits, publication_at, is_own, place, no_publication, publications_of, firsts, owns_of, Entry, Own, Round, Publication, own_position-at, same_payout, IsAtCut, IsAtOwn, IsAtRound, IsPlaced, done, full, has_no_room, not_owner, read, round, short, asks_in, owns_in, own_position, Receipt, IsSize, council_book, most_value, shared_account, spent_account, value_account, HasShareDecided, HasProposed, share_of, share_targets, value_targets}
use Rattle.at_agree.proofs.CouncilBook.{account_of-own, is_owner-own, is_owner-shared, is_single-shared, owner-shared, slot-shared}
use Rattle.at_agree.proofs.SharedBalance.{amount_of-one, sum_by-firsts_none}
use Rattle.at_agree.proofs.Shown.{IsCouncilList}

-- a weight that nothing in a list has, in any prefix
pub sum_by-firsts_never : (f : Publication → ℕ) (list : List Publication) (m : ℕ)
    → ((i : ℕ) → i < length list → f (publication_at list i) ≡ 0) → sum_by f (firsts (take m list)) ≡ 0
sum_by-firsts_never f list m none =
    elim (cases_lt m (length list)) as (λ _. sum_by f (firsts (take m list)) ≡ 0) [
      | inl below ↦ sum_by-firsts_none f list m (omega (arith, below)) (λ i early. none i (omega arith))
      | inr above ↦
          ap (λ xs. sum_by f (firsts xs)) (take_all m list above ∙ sym (take_all (length list) list (omega arith)))
          ∙ sum_by-firsts_none f list (length list) (omega arith) (λ i early. none i early)
    ]

-- a process without own records takes nothing from its own account
debit_of-unpaid : (k p : ℕ) (list : List Publication) (m : ℕ) (e : Entry) → p < k → IsCouncilList k list → owns_of p list ≡ 0 → m < length list
    → (publication_at list m).entry ≡ e → debit_of p e ≡ 0
debit_of-unpaid k p list m (Own from targets) known shown none within is =
    let x : Publication = publication_at list m in
    let from_is : from ≡ x.process = shown.own m from targets within is in
    let apart : (from ≡ p → ⊥) = λ same.
    let here : one_if ((x.process == p) && is_own x.entry) ≡ 1 =
    (λ t. one_if (eq-eqb x.process p (sym from_is ∙ same) t && is_own (is t))) in
    omega (arith, none, here, get_or-le-sum_by (λ (y : Publication). one_if ((y.process == p) && is_own y.entry)) list m no_publication within) in
    ap (λ t. cond t (amount_of targets) 0) (ne_eqb from p apart)
debit_of-unpaid k p list m (Round account r d targets) known shown none within is =
    let account_is : account ≡ 2 * k = shown.account m account r d targets within is in
    neither d.ok (account == p) (ne_eqb account p (λ e. omega (arith, e, account_is, known)))
  where
    neither : (ok same : Bool) → same ≡ false → cond (ok && same) (amount_of targets) 0 ≡ 0
    neither true same is = ap (λ t. cond t (amount_of targets) 0) is
    neither false same is = refl

-- so it covers every value
unpaid_covers : (k p value m : ℕ) (list : List Publication) → p < k → value < 2 ^ 32 → IsCouncilList k list → owns_of p list ≡ 0
    → value ≤ balance_after (council_book k) (take m list) p
unpaid_covers k p value m list known small shown none =
    let opening : (account_of (council_book k) p).opening ≡ most_value = ap (λ (t : AccountTerms). t.opening) (account_of-own k p known) in
    let paid : debits p (take m list) ≡ 0 =
    sum_by-firsts_never (λ y. debit_of p y.entry) list m (λ i within. debit_of-unpaid k p list i (publication_at list i).entry known shown none within refl) in
    omega (arith, opening, paid, small)

-- an own account has room for the first payment, and the shared one for the first request
room-own : (k p : ℕ) → p < k → has_no_room (council_book k) p [] ≡ false
room-own k p known =
    ap (λ (t : AccountTerms). (is_single t && (owns_in [] == 1)) || (is_shared t && (asks_in p [] == 1))) (account_of-own k p known)

room-shared : (k : ℕ) (earlier : List Receipt) → 2 ≤ k → asks_in (shared_account k) earlier ≡ 0
    → has_no_room (council_book k) (shared_account k) earlier ≡ false
room-shared k earlier some none =
    let joint = account_of (council_book k) (shared_account k) in
    (λ t. (is_single-shared k some t && (owns_in earlier == 1)) || (is_shared joint && (none t == 1)))
    ∙ never (is_shared joint)
  where
    never : (t : Bool) → (t && false) ≡ false
    never true = refl
    never false = refl

-- the payment of the value was decided: at an own record, or at a cut whose balance doesn't cover it
pub data IsDecidedValue (k p value : ℕ) (list : List Publication) (r : Receipt) : Type 0 where
  paid : r.reply ≡ Done → IsAtOwn p list [] p (value_targets k p value) r → IsDecidedValue k p value list r
  refused : (balance : ℕ) → r.reply ≡ Short → IsAtCut (council_book k) list p balance r → balance < value → IsDecidedValue k p value list r

pub value_decided : (k p value : ℕ) (list : List Publication) (r : Receipt) → p < k → r.call ≡ Transfer p (value_account k p) value
    → IsPlaced (council_book k) p list [] r → IsDecidedValue k p value list r
value_decided k p value list r known call_is placed =
    let b = council_book k in
    let asked : payout_of r.call ≡ Some (p, value_targets k p value) = ap payout_of call_is in
    let same : (source : ℕ) (targets : List TargetPair) → payout_of r.call ≡ Some (source, targets)
    → ◌≡◌ {A = ℕ × List TargetPair} (p, value_targets k p value) (source, targets) =
    λ source targets is. same_payout (p, value_targets k p value) (source, targets) (sym asked ∙ is) in
    elim placed as (λ _. IsDecidedValue k p value list r) [
      | read account balance call reply at ↦ absurd (cc (sym call_is ∙ call))
      | not_owner source targets payout owner reply at ↦
          let wrong : true ≡ false = sym (is_owner-own k p known) ∙ (ap (λ (x : ℕ × List TargetPair). is_owner b p x.0) (same source targets payout) ∙ owner) in
          absurd (cc wrong)
      | full source targets payout owner room reply at ↦
          let wrong : false ≡ true = sym (room-own k p known) ∙ (ap (λ (x : ℕ × List TargetPair). has_no_room b x.0 []) (same source targets payout) ∙ room) in
          absurd (cc wrong)
      | short source balance targets may single reply at less ↦
          let pair = same source targets may.call in
          let amount : value ≡ amount_of targets = sym (amount_of-one (value_account k p) value) ∙ ap (λ (x : ℕ × List TargetPair). amount_of x.1) pair in
          refused balance reply (subst (λ (x : ℕ × List TargetPair). IsAtCut b list x.0 balance r) (sym pair) at) (omega (arith, amount, less))
      | done source targets may single reply at ↦
          paid reply (subst (λ (x : ℕ × List TargetPair). IsAtOwn p list [] x.0 x.1 r) (sym (same source targets may.call)) at)
      | round source targets may shared at ↦
          let wrong : false ≡ true =
          sym (ap is_shared (account_of-own k p known)) ∙ (ap (λ (x : ℕ × List TargetPair). is_shared (account_of b x.0)) (same source targets may.call) ∙ shared) in
          absurd (cc wrong)
    ]

-- where a call that was short had no own record to count, it stands at an own record
pub value_placed : (k p value : ℕ) (list : List Publication) (r : Receipt) → p < k → value < 2 ^ 32 → IsCouncilList k list
    → r.call ≡ Transfer p (value_account k p) value → (r.reply ≡ Short → owns_of p list ≡ 0) → IsPlaced (council_book k) p list [] r
    → IsAtOwn p list [] p (value_targets k p value) r
value_placed k p value list r known small shown call_is unpaid placed =
    elim (value_decided k p value list r known call_is placed) as (λ _. IsAtOwn p list [] p (value_targets k p value) r) [
      | paid reply at ↦ at
      | refused balance reply at less ↦
          absurd (omega (arith, unpaid_covers k p value (place at.view) list known small shown (unpaid reply), at.balance, less))
    ]

-- the request stands in a round
pub share_placed : (k p : ℕ) (list : List Publication) (earlier : List Receipt) (r : Receipt) → p < k → IsSize k
    → r.call ≡ Transfer (shared_account k) (spent_account k) (share_of k p) → asks_in (shared_account k) earlier ≡ 0
    → IsPlaced (council_book k) p list earlier r → IsAtRound (council_book k) p list earlier (shared_account k) (share_targets k p) r
share_placed k p list earlier r known size call_is unasked placed =
    let b = council_book k in
    let a = shared_account k in
    let asked : payout_of r.call ≡ Some (a, share_targets k p) = ap payout_of call_is in
    let same : (source : ℕ) (targets : List TargetPair) → payout_of r.call ≡ Some (source, targets)
    → ◌≡◌ {A = ℕ × List TargetPair} (a, share_targets k p) (source, targets) =
    λ source targets is. same_payout (a, share_targets k p) (source, targets) (sym asked ∙ is) in
    let joint : (source : ℕ) (targets : List TargetPair) → payout_of r.call ≡ Some (source, targets) → is_single (account_of b source) ≡ true → ⊥ =
    λ source targets is single.
    let wrong : false ≡ true = sym (is_single-shared k size.some) ∙ (ap (λ (x : ℕ × List TargetPair). is_single (account_of b x.0)) (same source targets is) ∙ single) in
    cc wrong in
    let result = IsAtRound b p list earlier a (share_targets k p) r in
    elim placed as (λ _. result) [
      | read account balance call reply at ↦ absurd (cc (sym call_is ∙ call))
      | not_owner source targets payout owner reply at ↦
          let wrong : true ≡ false = sym (is_owner-shared k p known) ∙ (ap (λ (x : ℕ × List TargetPair). is_owner b p x.0) (same source targets payout) ∙ owner) in absurd (cc wrong)
      | full source targets payout owner room reply at ↦
          let wrong : false ≡ true = sym (room-shared k earlier size.some unasked) ∙ (ap (λ (x : ℕ × List TargetPair). has_no_room b x.0 earlier) (same source targets payout) ∙ room) in absurd (cc wrong)
      | short source balance targets may single reply at less ↦ absurd (joint source targets may.call single)
      | done source targets may single reply at ↦ absurd (joint source targets may.call single)
      | round source targets may shared at ↦
          subst (λ (x : ℕ × List TargetPair). IsAtRound b p list earlier x.0 x.1 r) (sym (same source targets may.call)) at
    ]

-- a record of that kind stands there
pub HasProposed-IsAtOwn : (k p value : ℕ) (list : List Publication) (earlier : List Receipt) (r : Receipt)
    → IsAtOwn p list earlier p (value_targets k p value) r → HasProposed k list p value
HasProposed-IsAtOwn k p value list earlier r at =
    let there = own_position-at p at.number list at.within in
    let m = own_position p at.number list in
    let same : publication_at (publications_of p list) at.number ≡ publication_at list m =
    ap (λ n. publication_at (publications_of p list) n) (sym there.before) ∙ get_or-publications_of p m list no_publication there.within there.own in
    record {
      position = m;
      within = there.within;
      process_is = there.own;
      entry = sym (ap (λ (x : Publication). x.entry) same) ∙ at.entry;
    }

pub position-HasProposed : (k p value : ℕ) (list : List Publication) (earlier : List Receipt) (r : Receipt)
    → (at : IsAtOwn p list earlier p (value_targets k p value) r)
    → (HasProposed-IsAtOwn k p value list earlier r at).position ≡ own_position p at.number list
unfolding HasProposed-IsAtOwn
position-HasProposed k p value list earlier r at = refl

-- the slot of a round that stands for a process is the process
pub slot-IsAtRound : (k p : ℕ) (list : List Publication) (earlier : List Receipt) (r : Receipt) → p < k
    → (at : IsAtRound (council_book k) p list earlier (shared_account k) (share_targets k p) r) → at.decision.slot ≡ p
slot-IsAtRound k p list earlier r known at = cc (sym (slot-shared k p known) ∙ at.slot)

pub HasShareDecided-IsAtRound : (k p : ℕ) (list : List Publication) (earlier : List Receipt) (r : Receipt) → p < k
    → IsAtRound (council_book k) p list earlier (shared_account k) (share_targets k p) r → HasShareDecided k list p
HasShareDecided-IsAtRound k p list earlier r known at =
    let slot_is : at.decision.slot ≡ p = slot-IsAtRound k p list earlier r known at in
    record {
      position = at.position;
      within = at.within;
      round = at.round;
      decision = at.decision;
      entry = at.entry;
      winner = owner-shared k at.decision.slot (omega (arith, slot_is, known)) ∙ slot_is;
    }
