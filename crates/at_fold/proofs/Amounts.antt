-- Adding the amounts of targets one after another.
use Rattle.std.proofs.Common.{◌≡◌, ℕ, ◌<◌, ◌≤◌, ◌==◌, Bool, true, false, cond, List, [], ◌∷◌, length, arith}
use Rattle.at_fold.proofs.Prelude.{sum_by-cons, TargetPair, amount_of, amount_for, AccountSums, sums_at, with_credit}

-- one more of two numbers
pub cond-le : (t : Bool) (n : ℕ) → cond t n 0 ≤ n
cond-le true n = omega arith
cond-le false n = omega arith

-- the amounts for an account are among all of them
pub amount_for-le : (a : ℕ) (targets : List TargetPair) → amount_for a targets ≤ amount_of targets
amount_for-le a [] = omega arith
amount_for-le a (t ∷ targets) =
    omega (
      arith,
      sum_by-cons (λ (u : TargetPair). cond (u.0 == a) u.1 0) t targets,
      sum_by-cons (λ (u : TargetPair). u.1) t targets,
      amount_for-le a targets,
      cond-le (t.0 == a) t.1,
    )

-- some of the targets are added to each account
pub record AreCredited (before now : List AccountSums) (targets : List TargetPair) : Type 0 where
  pub sized : length now ≡ length before
  pub all_sums : (a : ℕ) → a < length before → sums_at now a ≡ with_credit (sums_at before a) (amount_for a targets)
