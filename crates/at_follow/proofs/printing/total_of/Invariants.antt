use Rattle.std.proofs.Common.{◌≡◌, sum, take}
use Rattle.at_follow.proofs.printing.total_of.Given as goal

abbrev pub invariant-loop-account : goal.invariant-loop-account
invariant-loop-account l = l.total ≡ sum (take l.account l.node.core.balances)
