-- Pay-outs of the ledger that succeed.
use Rattle.std.proofs.Common.{◌≡◌, ℕ, ◌+◌, ◌<◌, ◌≤◌, ◌==◌, not, zero, ltb, Bool, true, false, cond, List, [], ◌∷◌, length, get_or, set, sum, refl, sym, ap, subst, ◌∙◌, arith, inl, inr}
use Rattle.at_history.proofs.Prelude.{cases_eq, eq-eqb, ne_eqb, le-ltb, length-set, get_or-set_same, get_or-set_other, All-head, All-tail, sum_by-cons, sum_by-set, is_owner, AreTargetsOn, TargetPair, amount_of, LedgerState, Step, after_done, after_short, balance_of, credited, is_full, pay, Done, Full, NotOwner, Short, amount_for}

-- the last of four cases
last_case : (a b c : Step) (d : Step) (owner full short : Bool) → owner ≡ true → full ≡ false → short ≡ false
    → cond (not owner) a (cond full b (cond short c d)) ≡ d
last_case a b c d owner full short is_owner not_full not_short =
    ap (λ t. cond (not t) a (cond full b (cond short c d))) is_owner
    ∙ (ap (λ t. cond t b (cond short c d)) not_full ∙ ap (λ t. cond t c d) not_short)

-- an owner with room whose balance covers the amounts
pub pay-done : (s : LedgerState) (process source : ℕ) (targets : List TargetPair) → is_owner s.book process source ≡ true
    → is_full s process source ≡ false → amount_of targets ≤ balance_of s source
    → pay s process source targets ≡ record { ledger = after_done s process source targets; reply = Done }
pay-done s process source targets owner room covered =
    last_case (record { ledger = s; reply = NotOwner }) (record { ledger = s; reply = Full })
    (record { ledger = after_short s process source; reply = Short }) (record { ledger = after_done s process source targets; reply = Done })
    (is_owner s.book process source) (is_full s process source) (ltb (balance_of s source) (amount_of targets))
    owner room (le-ltb (balance_of s source) (amount_of targets) covered)

pub length-credited : (balances : List ℕ) (targets : List TargetPair) → length (credited balances targets) ≡ length balances
unfolding credited
length-credited balances [] = refl
length-credited balances (t ∷ ts) =
    length-credited (set balances t.0 (get_or balances t.0 0 + t.1)) ts ∙ length-set balances t.0 (get_or balances t.0 0 + t.1)

AreTargetsOn-tail : (balances : List ℕ) (t : TargetPair) (ts : List TargetPair) (i y : ℕ) → AreTargetsOn (length balances) (t ∷ ts)
    → AreTargetsOn (length (set balances i y)) ts
AreTargetsOn-tail balances t ts i y known =
    subst (λ k. AreTargetsOn k ts) (sym (length-set balances i y)) (All-tail (λ (u : TargetPair). u.0 < length balances) t ts known)

-- an account gains the amounts for it
pub get_or-credited : (balances : List ℕ) (targets : List TargetPair) (c : ℕ) → AreTargetsOn (length balances) targets → c < length balances
    → get_or (credited balances targets) c 0 ≡ get_or balances c 0 + amount_for c targets
unfolding credited
get_or-credited balances [] c known within = omega arith
get_or-credited balances (t ∷ ts) c known within =
    let y = get_or balances t.0 0 + t.1 in
    let inside = All-head (λ (u : TargetPair). u.0 < length balances) t ts known in
    let rest = get_or-credited (set balances t.0 y) ts c (AreTargetsOn-tail balances t ts t.0 y known) (omega (arith, length-set balances t.0 y)) in
    let split = sum_by-cons (λ (u : TargetPair). cond (u.0 == c) u.1 0) t ts in
    elim (cases_eq t.0 c) as (λ _. get_or (credited (set balances t.0 y) ts) c 0 ≡ get_or balances c 0 + amount_for c (t ∷ ts)) [
      | inl same ↦
          let here : cond (t.0 == c) t.1 zero ≡ t.1 = ap (λ (b : Bool). cond b t.1 zero) (eq-eqb t.0 c same) in
          let stored = get_or-set_same balances t.0 y 0 inside in
          let at : get_or (set balances t.0 y) c 0 ≡ get_or (set balances t.0 y) t.0 0 = ap (λ i. get_or (set balances t.0 y) i 0) (sym same) in
          let old : get_or balances t.0 0 ≡ get_or balances c 0 = ap (λ i. get_or balances i 0) same in
          omega (arith, rest, split, here, stored, at, old)
      | inr apart ↦
          let here : cond (t.0 == c) t.1 zero ≡ zero = ap (λ (b : Bool). cond b t.1 zero) (ne_eqb t.0 c apart) in
          let kept = get_or-set_other balances t.0 c y 0 (λ e. apart (sym e)) in
          omega (arith, rest, split, here, kept)
    ]

-- all accounts together gain the sum of the amounts
pub sum-credited : (balances : List ℕ) (targets : List TargetPair) → AreTargetsOn (length balances) targets
    → sum (credited balances targets) ≡ sum balances + amount_of targets
unfolding credited
sum-credited balances [] known = omega arith
sum-credited balances (t ∷ ts) known =
    let y = get_or balances t.0 0 + t.1 in
    let inside = All-head (λ (u : TargetPair). u.0 < length balances) t ts known in
    omega (
      arith,
      sum-credited (set balances t.0 y) ts (AreTargetsOn-tail balances t ts t.0 y known),
      sum_by-set (λ n. n) balances t.0 y 0 inside,
      sum_by-cons (λ (u : TargetPair). u.1) t ts,
    )
