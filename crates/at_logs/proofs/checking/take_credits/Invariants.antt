use Rattle.std.proofs.Common.{◌≡◌, ℕ, ◌+◌, get_or, sum_by, take}
use Rattle.at_logs.proofs.Prelude.{credit_to}
use Rattle.at_logs.proofs.checking.take_credits.Given as goal

abbrev pub invariant-loop-credit : goal.invariant-loop-credit
invariant-loop-credit l = (a : ℕ) → get_or l.left a 0 + sum_by (credit_to a) (take l.credit-index l.credits) ≡ get_or l.fn.left a 0
