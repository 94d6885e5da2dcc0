use Rattle.std.proofs.Common.{ℕ, ◌<◌, get_or}
use Rattle.at_logs.proofs.Prelude.{Credit, IsCreditOf}
use Rattle.at_logs.proofs.checking.are_credits_of.Given as goal

abbrev pub invariant-loop-credit : goal.invariant-loop-credit
invariant-loop-credit l = (k : ℕ) (d : Credit) → k < l.credit-index → IsCreditOf l.book l.p (get_or l.credits k d)
