-- Amounts added to their targets, one after another.
use Rattle.std.proofs.Common.{◌≡◌, ℕ, ◌+◌, ◌<◌, ◌≤◌, List, length, get_or, set, drop, sum, arith}
use Rattle.at_ledger.proofs.Prelude.{at_drop_more, at_drop_all, sum_by-drop_more, sum_by-set, TargetPair, amount_of, credited}

-- the next target is credited first
pub credited-drop_more : (balances : List ℕ) (targets : List TargetPair) (i : ℕ) → i < length targets
    → let t : TargetPair = get_or targets i (0, 0) in
    credited balances (drop i targets) ≡ credited (set balances t.0 (get_or balances t.0 0 + t.1)) (drop (i + 1) targets)
unfolding credited
credited-drop_more balances targets i within = at_drop_more (credited balances) targets i (0, 0) within

-- after the last target nothing changes
pub credited-drop_all : (balances : List ℕ) (targets : List TargetPair) (i : ℕ) → length targets ≤ i
    → credited balances (drop i targets) ≡ balances
unfolding credited
credited-drop_all balances targets i all = at_drop_all (credited balances) targets i all

-- the amounts still to come, the next one first
pub amount_of-drop_more : (targets : List TargetPair) (i : ℕ) → i < length targets
    → let t : TargetPair = get_or targets i (0, 0) in amount_of (drop i targets) ≡ t.1 + amount_of (drop (i + 1) targets)
amount_of-drop_more targets i within = sum_by-drop_more (λ t. t.1) targets i (0, 0) within

-- one account is credited: the sum grows by the amount
pub sum-set_more : (balances : List ℕ) (account amount : ℕ) → account < length balances
    → sum (set balances account (get_or balances account 0 + amount)) ≡ sum balances + amount
sum-set_more balances account amount within =
    omega (arith, sum_by-set (λ n. n) balances account (get_or balances account 0 + amount) 0 within)
