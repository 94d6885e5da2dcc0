use Rattle.std.proofs.Common.{◌≡◌, ◌+◌, drop, sum}
use Rattle.at_broadcast.proofs.Prelude.{amount_of, credited}
use Rattle.at_broadcast.proofs.payout.credit.Given as goal

abbrev pub invariant-loop-i : goal.invariant-loop-i
invariant-loop-i l =
    (credited l.balances (drop l.i l.targets) ≡ credited l.fn.balances l.targets)
    × (sum l.balances + amount_of (drop l.i l.targets) ≡ sum l.fn.balances + amount_of l.targets)
