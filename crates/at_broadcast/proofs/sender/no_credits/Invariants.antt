use Rattle.std.proofs.Common.{◌≡◌, replicate}
use Rattle.at_broadcast.proofs.Prelude.{no_credits}
use Rattle.at_broadcast.proofs.sender.no_credits.Given as goal

abbrev pub invariant-loop-account : goal.invariant-loop-account
invariant-loop-account l = l.credits.items ≡ replicate l._account no_credits
