use Rattle.std.proofs.Common.{◌≡◌, ℕ, ◌+◌, ◌<◌, length, get_or, sum_by, take}
use Rattle.at_logs.proofs.Prelude.{credit_below}
use Rattle.at_logs.proofs.credits.add_below.Given as goal

abbrev pub invariant-loop-credit : goal.invariant-loop-credit
invariant-loop-credit l =
    (a : ℕ) → a < length l.fn.settled → get_or l.settled a 0 ≡ get_or l.fn.settled a 0 + sum_by (credit_below a l.deps) (take l.credit-index l.credits)
