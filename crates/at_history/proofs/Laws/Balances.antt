-- The ledger's state after the moves of a list of publications.
use Rattle.std.proofs.Common.{◌≡◌, ℕ, ◌+◌, ◌-◌, ◌*◌, ◌<◌, ◌≤◌, ◌==◌, ◌&&◌, zero, Bool, true, false, cond, List, [], ◌∷◌, ◌++◌, length, get_or, set, map, replicate, sum, refl, sym, ap, subst, ◌∙◌, arith, inl, inr}
use Rattle.at_history.proofs.Prelude.{cases_eq, eq-eqb, ne_eqb, get_or-map, get_or-replicate, get_or-set_other, get_or-set_same, length-map, length-replicate, length-set, sum-map, sum_by-set, sum_by_push, mul-add-lt, same_from_place, no_account, BookTerms, account_of, total_of, HasSlot, AreTargetsOn, TargetPair, amount_of, LedgerState, asked_position, credited, IsCovered, amount_for, credit_of, credits, debit_of, debits, is_own, names, firsts, named, owns_of, repeats, Publication}
use Rattle.at_history.proofs.Laws.Payments.{get_or-credited, length-credited, sum-credited}
use Rattle.at_history.proofs.Laws.Rounds.{one_if, sum_by-firsts-le, sum_by-firsts_new}

-- a state of the ledger over the book
abbrev pub ledger : BookTerms → List ℕ → List ℕ → List ℕ → LedgerState
ledger b balances sent asked = record { book = b; balances = balances; sent = sent; asked = asked }

-- the state has the balances of the list, and no more room is used than the list shows
pub record Follows (b : BookTerms) (xs : List Publication) (balances sent asked : List ℕ) : Type 0 where
  pub accounts : length balances ≡ length b.accounts
  pub senders : length sent ≡ b.processes
  pub askers : length asked ≡ b.processes * length b.accounts
  pub balanced : (a : ℕ) → a < length b.accounts → get_or balances a 0 + debits a xs ≡ (account_of b a).opening + credits a xs
  pub sent_so : (p : ℕ) → p < b.processes → get_or sent p 0 ≡ owns_of p xs
  pub asked_so : (p a slot : ℕ) → p < b.processes → HasSlot b p a slot → get_or asked (asked_position b p a) 0 ≤ named a slot xs
  pub total : sum balances ≡ total_of b

-- nothing has moved yet
pub Follows-nil : (b : BookTerms)
    → Follows b [] (map (λ t. t.opening) b.accounts) (replicate b.processes 0) (replicate (b.processes * length b.accounts) 0)
unfolding firsts
Follows-nil b = record {
  accounts = length-map b.accounts (λ t. t.opening);
  senders = length-replicate b.processes 0;
  askers = length-replicate (b.processes * length b.accounts) 0;
  balanced = λ a within. omega (arith, get_or-map (λ t. t.opening) b.accounts a no_account 0 within);
  sent_so = λ p within. get_or-replicate {A = ℕ} b.processes p 0 0 within;
  asked_so = λ p a slot within has.
      omega (
        arith,
        get_or-replicate {A = ℕ} (b.processes * length b.accounts) (asked_position b p a) 0 0
            (omega (arith, mul-add-lt p (length b.accounts) a b.processes within has.account_in)),
      );
  total = sum-map (λ t. t.opening) b.accounts;
}

-- a list that moved the same, with as many own records and no fewer named rounds
pub record MovesSame (b : BookTerms) (xs ys : List Publication) : Type 0 where
  pub credits_same : (a : ℕ) → credits a ys ≡ credits a xs
  pub debits_same : (a : ℕ) → debits a ys ≡ debits a xs
  pub owns_same : (p : ℕ) → owns_of p ys ≡ owns_of p xs
  pub named_more : (a slot : ℕ) → named a slot xs ≤ named a slot ys

pub Follows-same : (b : BookTerms) (xs ys : List Publication) (balances sent asked : List ℕ) → MovesSame b xs ys
    → Follows b xs balances sent asked → Follows b ys balances sent asked
Follows-same b xs ys balances sent asked same f = record {
  accounts = f.accounts;
  senders = f.senders;
  askers = f.askers;
  balanced = λ a within. omega (arith, f.balanced a within, same.credits_same a, same.debits_same a);
  sent_so = λ p within. f.sent_so p within ∙ sym (same.owns_same p);
  asked_so = λ p a slot within has. omega (arith, f.asked_so p a slot within has, same.named_more a slot);
  total = f.total;
}

-- a publication moved these amounts from this account
pub record MovesNow (xs : List Publication) (x : Publication) (source : ℕ) (targets : List TargetPair) : Type 0 where
  pub new : repeats x (firsts xs) ≡ false
  pub debit : (c : ℕ) → debit_of c x.entry ≡ cond (source == c) (amount_of targets) 0
  pub credit : (c : ℕ) → credit_of c x.entry ≡ amount_for c targets

-- the balances after a success
abbrev pub balances_after : List ℕ → ℕ → List TargetPair → List ℕ
balances_after balances source targets = credited (set balances source (get_or balances source 0 - amount_of targets)) targets

-- what follows of the balances after one more publication that moved
pub record BalancesFollow (b : BookTerms) (xs : List Publication) (balances : List ℕ) : Type 0 where
  pub accounts : length balances ≡ length b.accounts
  pub balanced : (a : ℕ) → a < length b.accounts → get_or balances a 0 + debits a xs ≡ (account_of b a).opening + credits a xs
  pub total : sum balances ≡ total_of b

pub BalancesFollow-push : (b : BookTerms) (xs : List Publication) (x : Publication) (balances : List ℕ) (source : ℕ) (targets : List TargetPair)
    → BalancesFollow b xs balances → MovesNow xs x source targets → source < length b.accounts → AreTargetsOn (length b.accounts) targets
    → IsCovered b xs source (amount_of targets) → BalancesFollow b (xs ++ x ∷ []) (balances_after balances source targets)
BalancesFollow-push b xs x balances source targets f now inside known covered =
    let y = get_or balances source 0 - amount_of targets in
    let enough : amount_of targets ≤ get_or balances source 0 = omega (arith, f.balanced source inside, covered) in
    let sized : length (set balances source y) ≡ length b.accounts = length-set balances source y ∙ f.accounts in
    let known_here : AreTargetsOn (length (set balances source y)) targets = subst (λ n. AreTargetsOn n targets) (sym sized) known in
    let taken = sum_by-set (λ n. n) balances source y 0 (omega (arith, f.accounts)) in
    record {
      accounts = length-credited (set balances source y) targets ∙ sized;
      balanced = λ c within.
          let gained = get_or-credited (set balances source y) targets c known_here (omega (arith, sized)) in
          let more_debits = sum_by-firsts_new (λ z. debit_of c z.entry) xs x now.new in
          let more_credits = sum_by-firsts_new (λ z. credit_of c z.entry) xs x now.new in
          elim (cases_eq source c) as (λ _. get_or (balances_after balances source targets) c 0 + debits c (xs ++ x ∷ []) ≡ (account_of b c).opening + credits c (xs ++ x ∷ [])) [
            | inl same ↦
                let here : cond (source == c) (amount_of targets) zero ≡ amount_of targets = ap (λ (t : Bool). cond t (amount_of targets) zero) (eq-eqb source c same) in
                let stored = get_or-set_same balances source y 0 (omega (arith, f.accounts)) in
                let at : get_or (set balances source y) c 0 ≡ get_or (set balances source y) source 0 = ap (λ i. get_or (set balances source y) i 0) (sym same) in
                let old : get_or balances source 0 ≡ get_or balances c 0 = ap (λ i. get_or balances i 0) same in
                omega (arith, gained, more_debits, more_credits, now.debit c, now.credit c, here, stored, at, old, f.balanced c within)
            | inr apart ↦
                let here : cond (source == c) (amount_of targets) zero ≡ zero = ap (λ (t : Bool). cond t (amount_of targets) zero) (ne_eqb source c apart) in
                let kept = get_or-set_other balances source c y 0 (λ e. apart (sym e)) in
                omega (arith, gained, more_debits, more_credits, now.debit c, now.credit c, here, kept, f.balanced c within)
          ];
      total = omega (arith, sum-credited (set balances source y) targets known_here, taken, f.total);
    }

-- one more own record of its process
owns_of-push_own : (p : ℕ) (xs : List Publication) (x : Publication) → is_own x.entry ≡ true
    → owns_of p (xs ++ x ∷ []) ≡ owns_of p xs + one_if (x.process == p)
owns_of-push_own p xs x own =
    let here : one_if ((x.process == p) && is_own x.entry) ≡ one_if (x.process == p) =
    ap (λ t. one_if ((x.process == p) && t)) own ∙ ap one_if (and_true (x.process == p)) in
    omega (arith, sum_by_push (λ y. one_if ((y.process == p) && is_own y.entry)) xs x, here)
  where
    and_true : (t : Bool) → (t && true) ≡ t
    and_true true = refl
    and_true false = refl

pub owns_of-push_round : (p : ℕ) (xs : List Publication) (x : Publication) → is_own x.entry ≡ false
    → owns_of p (xs ++ x ∷ []) ≡ owns_of p xs
owns_of-push_round p xs x round =
    let here : one_if ((x.process == p) && is_own x.entry) ≡ one_if false =
    ap (λ t. one_if ((x.process == p) && t)) round ∙ ap one_if (and_false (x.process == p)) in
    omega (arith, sum_by_push (λ y. one_if ((y.process == p) && is_own y.entry)) xs x, here)
  where
    and_false : (t : Bool) → (t && false) ≡ false
    and_false true = refl
    and_false false = refl

-- an own record follows by one more success of its process
pub Follows-own : (b : BookTerms) (xs : List Publication) (x : Publication) (balances sent asked : List ℕ) (source : ℕ) (targets : List TargetPair)
    → Follows b xs balances sent asked → MovesNow xs x source targets → is_own x.entry ≡ true → x.process < b.processes
    → source < length b.accounts → AreTargetsOn (length b.accounts) targets → IsCovered b xs source (amount_of targets)
    → Follows b (xs ++ x ∷ []) (balances_after balances source targets) (set sent x.process (get_or sent x.process 0 + 1)) asked
Follows-own b xs x balances sent asked source targets f now own process inside known covered =
    let after = BalancesFollow-push b xs x balances source targets (record { accounts = f.accounts; balanced = f.balanced; total = f.total }) now inside known covered in
    let y = get_or sent x.process 0 + 1 in
    record {
      accounts = after.accounts;
      senders = length-set sent x.process y ∙ f.senders;
      askers = f.askers;
      balanced = after.balanced;
      sent_so = λ p within.
          let more = owns_of-push_own p xs x own in
          elim (cases_eq x.process p) as (λ _. get_or (set sent x.process y) p 0 ≡ owns_of p (xs ++ x ∷ [])) [
            | inl same ↦
                let stored = get_or-set_same sent x.process y 0 (omega (arith, f.senders)) in
                let at : get_or (set sent x.process y) p 0 ≡ get_or (set sent x.process y) x.process 0 = ap (λ i. get_or (set sent x.process y) i 0) (sym same) in
                let old : get_or sent x.process 0 ≡ get_or sent p 0 = ap (λ i. get_or sent i 0) same in
                let here : one_if (x.process == p) ≡ one_if true = ap one_if (eq-eqb x.process p same) in
                omega (arith, more, stored, at, old, here, f.sent_so p within)
            | inr apart ↦
                let kept = get_or-set_other sent x.process p y 0 (λ e. apart (sym e)) in
                let here : one_if (x.process == p) ≡ one_if false = ap one_if (ne_eqb x.process p apart) in
                omega (arith, more, kept, here, f.sent_so p within)
          ];
      asked_so = λ p a slot within has.
          omega (arith, f.asked_so p a slot within has, sum_by-firsts-le (λ y. one_if (names a slot y.entry)) xs x);
      total = after.total;
    }

-- an owner has one slot
HasSlot-same : (b : BookTerms) (p a slot other : ℕ) → HasSlot b p a slot → HasSlot b p a other → slot ≡ other
HasSlot-same b p a slot other one two = cc (one.owner, two.owner)

-- a round's success follows by one more request of the owner of the slot
pub Follows-round : (b : BookTerms) (xs : List Publication) (x : Publication) (balances sent asked : List ℕ) (source : ℕ) (targets : List TargetPair) (q slot : ℕ)
    → Follows b xs balances sent asked → MovesNow xs x source targets → is_own x.entry ≡ false → q < b.processes
    → HasSlot b q source slot → names source slot x.entry ≡ true
    → AreTargetsOn (length b.accounts) targets → IsCovered b xs source (amount_of targets)
    → Follows b (xs ++ x ∷ []) (balances_after balances source targets) sent (set asked (asked_position b q source) (get_or asked (asked_position b q source) 0 + 1))
Follows-round b xs x balances sent asked source targets q slot f now own process has named_here known covered =
    let after = BalancesFollow-push b xs x balances source targets (record { accounts = f.accounts; balanced = f.balanced; total = f.total }) now has.account_in known covered in
    let place = asked_position b q source in
    let y = get_or asked place 0 + 1 in
    record {
      accounts = after.accounts;
      senders = f.senders;
      askers = length-set asked place y ∙ f.askers;
      balanced = after.balanced;
      sent_so = λ p within. f.sent_so p within ∙ sym (owns_of-push_round p xs x own);
      asked_so = λ p a other within has_other.
          let old = f.asked_so p a other within has_other in
          let more = sum_by-firsts_new (λ z. one_if (names a other z.entry)) xs x now.new in
          elim (cases_eq (asked_position b p a) place) as (λ _. get_or (set asked place y) (asked_position b p a) 0 ≤ named a other (xs ++ x ∷ [])) [
            | inl same ↦
                let parts = same_from_place p a q source (length b.accounts) has_other.account_in has.account_in same in
                let slots : slot ≡ other = HasSlot-same b q source slot other has
                (subst (λ t. HasSlot b t source other) parts.0 (subst (λ t. HasSlot b p t other) parts.1 has_other)) in
                let counted : one_if (names a other x.entry) ≡ one_if true =
                ap one_if (subst (λ t. names a t x.entry ≡ true) slots (subst (λ t. names t slot x.entry ≡ true) (sym parts.1) named_here)) in
                let stored = get_or-set_same asked place y 0 (omega (arith, f.askers, mul-add-lt q (length b.accounts) source b.processes process has.account_in)) in
                let at : get_or (set asked place y) (asked_position b p a) 0 ≡ get_or (set asked place y) place 0 = ap (λ i. get_or (set asked place y) i 0) same in
                let before : get_or asked (asked_position b p a) 0 ≡ get_or asked place 0 = ap (λ i. get_or asked i 0) same in
                omega (arith, old, more, counted, stored, at, before)
            | inr apart ↦
                let kept = get_or-set_other asked place (asked_position b p a) y 0 apart in
                omega (arith, old, kept, sum_by-firsts-le (λ z. one_if (names a other z.entry)) xs x)
          ];
      total = after.total;
    }
