-- A sum is taken from one balance, and amounts are added to others.
use Rattle.std.proofs.Common.{◌≡◌, ◌≢◌, ℕ, ◌+◌, ◌-◌, ◌<◌, ◌≤◌, List, [], ◌∷◌, length, get_or, set, sum, cond, eqb, refl, ap, sym, subst, ◌∙◌, inl, inr, arith, eq-eqb, length-set, get_or-set_same, get_or-set_other}
use Rattle.at_broadcast.proofs.Prelude.{cases_eq, nat_tests, All-head, All-tail, sum_by-cons, sum_by-set, sum-set_more, AreTargetsOn, TargetPair, amount_of, credited, amount_to}

-- the balances after it
abbrev pub less : List ℕ → ℕ → ℕ → List ℕ
less balances from amount = set balances from (get_or balances from 0 - amount)

abbrev pub moved : List ℕ → ℕ → List TargetPair → List ℕ
moved balances from targets = credited (less balances from (amount_of targets)) targets

-- the amount if the account is this one
abbrev pub amount_if : ℕ → ℕ → ℕ → ℕ
amount_if this account amount = cond (eqb this account) amount 0

pub amount_if-other : (this account amount : ℕ) → account ≢ this → amount_if this account amount ≡ 0
amount_if-other this account amount apart = grind (arith, nat_tests, apart)

pub get_or-less : (balances : List ℕ) (from amount a : ℕ) → from < length balances → amount ≤ get_or balances from 0
    → get_or (less balances from amount) a 0 + amount_if from a amount ≡ get_or balances a 0
get_or-less balances from amount a known covered =
    elim (cases_eq a from) as (λ _. get_or (less balances from amount) a 0 + amount_if from a amount ≡ get_or balances a 0) [
      | inl same ↦
          let test : amount_if from a amount ≡ amount = ap (λ t. cond t amount 0) (eq-eqb from a (sym same)) in
          omega (
            arith,
            test,
            ap (λ k. get_or (less balances from amount) k 0) same,
            ap (λ k. get_or balances k 0) same,
            get_or-set_same balances from (get_or balances from 0 - amount) 0 known,
          )
      | inr apart ↦
          omega (arith, amount_if-other from a amount apart, get_or-set_other balances from a (get_or balances from 0 - amount) 0 apart)
    ]

get_or-more : (balances : List ℕ) (to amount a : ℕ) → to < length balances
    → get_or (set balances to (get_or balances to 0 + amount)) a 0 ≡ get_or balances a 0 + amount_if to a amount
get_or-more balances to amount a known =
    elim (cases_eq a to) as (λ _. get_or (set balances to (get_or balances to 0 + amount)) a 0 ≡ get_or balances a 0 + amount_if to a amount) [
      | inl same ↦
          let test : amount_if to a amount ≡ amount = ap (λ t. cond t amount 0) (eq-eqb to a (sym same)) in
          omega (
            arith,
            test,
            ap (λ k. get_or (set balances to (get_or balances to 0 + amount)) k 0) same,
            ap (λ k. get_or balances k 0) same,
            get_or-set_same balances to (get_or balances to 0 + amount) 0 known,
          )
      | inr apart ↦
          omega (arith, amount_if-other to a amount apart, get_or-set_other balances to a (get_or balances to 0 + amount) 0 apart)
    ]

pub length-credited : (balances : List ℕ) (targets : List TargetPair) → length (credited balances targets) ≡ length balances
unfolding credited
length-credited balances [] = refl
length-credited balances (t ∷ targets) =
    length-credited (set balances t.0 (get_or balances t.0 0 + t.1)) targets ∙ length-set balances t.0 (get_or balances t.0 0 + t.1)

-- targets after the first, once that is credited
targets-rest : (balances : List ℕ) (t : TargetPair) (targets : List TargetPair) → AreTargetsOn (length balances) (t ∷ targets)
    → AreTargetsOn (length (set balances t.0 (get_or balances t.0 0 + t.1))) targets
targets-rest balances t targets known =
    subst (λ (n : ℕ). AreTargetsOn n targets) (sym (length-set balances t.0 (get_or balances t.0 0 + t.1)))
    (All-tail (λ (t : TargetPair). t.0 < length balances) t targets known)

get_or-credited : (balances : List ℕ) (targets : List TargetPair) (a : ℕ) → AreTargetsOn (length balances) targets
    → get_or (credited balances targets) a 0 ≡ get_or balances a 0 + amount_to a targets
unfolding credited
get_or-credited balances [] a known = omega arith
get_or-credited balances (t ∷ targets) a known =
    omega (
      arith,
      get_or-credited (set balances t.0 (get_or balances t.0 0 + t.1)) targets a (targets-rest balances t targets known),
      get_or-more balances t.0 t.1 a (All-head (λ (t : TargetPair). t.0 < length balances) t targets known),
      sum_by-cons (λ (t : TargetPair). cond (eqb t.0 a) t.1 0) t targets,
    )

sum-credited : (balances : List ℕ) (targets : List TargetPair) → AreTargetsOn (length balances) targets
    → sum (credited balances targets) ≡ sum balances + amount_of targets
unfolding credited
sum-credited balances [] known = omega arith
sum-credited balances (t ∷ targets) known =
    omega (
      arith,
      sum-credited (set balances t.0 (get_or balances t.0 0 + t.1)) targets (targets-rest balances t targets known),
      sum-set_more balances t.0 t.1 (All-head (λ (t : TargetPair). t.0 < length balances) t targets known),
      sum_by-cons (λ (t : TargetPair). t.1) t targets,
    )

-- the targets are among the balances after the sum is taken
targets-less : (balances : List ℕ) (from amount : ℕ) (targets : List TargetPair) → AreTargetsOn (length balances) targets
    → AreTargetsOn (length (less balances from amount)) targets
targets-less balances from amount targets known =
    subst (λ (n : ℕ). AreTargetsOn n targets) (sym (length-set balances from (get_or balances from 0 - amount))) known

pub length-moved : (balances : List ℕ) (from : ℕ) (targets : List TargetPair) → length (moved balances from targets) ≡ length balances
length-moved balances from targets =
    length-credited (less balances from (amount_of targets)) targets ∙ length-set balances from (get_or balances from 0 - amount_of targets)

pub get_or-moved : (balances : List ℕ) (from : ℕ) (targets : List TargetPair) (a : ℕ) → from < length balances → AreTargetsOn (length balances) targets
    → amount_of targets ≤ get_or balances from 0
    → get_or (moved balances from targets) a 0 + amount_if from a (amount_of targets) ≡ get_or balances a 0 + amount_to a targets
get_or-moved balances from targets a from_in known covered =
    omega (
      arith,
      get_or-less balances from (amount_of targets) a from_in covered,
      get_or-credited (less balances from (amount_of targets)) targets a (targets-less balances from (amount_of targets) targets known),
    )

pub sum-less : (balances : List ℕ) (from amount : ℕ) → from < length balances → amount ≤ get_or balances from 0 → sum (less balances from amount) + amount ≡ sum balances
sum-less balances from amount known covered =
    omega (arith, covered, sum_by-set (λ n. n) balances from (get_or balances from 0 - amount) 0 known)

pub sum-moved : (balances : List ℕ) (from : ℕ) (targets : List TargetPair) → from < length balances → AreTargetsOn (length balances) targets
    → amount_of targets ≤ get_or balances from 0 → sum (moved balances from targets) ≡ sum balances
sum-moved balances from targets from_in known covered =
    omega (
      arith,
      sum-less balances from (amount_of targets) from_in covered,
      sum-credited (less balances from (amount_of targets)) targets (targets-less balances from (amount_of targets) targets known),
    )
