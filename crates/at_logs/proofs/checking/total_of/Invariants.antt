use Rattle.std.proofs.Common.{◌≡◌, sum_by, take}
use Rattle.at_logs.proofs.checking.total_of.Given as goal

abbrev pub invariant-loop-account : goal.invariant-loop-account
invariant-loop-account l = l.total ≡ sum_by (λ t. t.opening) (take l.account l.book.accounts)
