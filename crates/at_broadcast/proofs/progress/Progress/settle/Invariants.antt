use Rattle.std.proofs.Common.{◌≡◌}
use Rattle.at_broadcast.proofs.Prelude.{left}
use Rattle.at_broadcast.proofs.progress.Progress.settle.Given as goal

abbrev pub invariant-loop-payout : goal.invariant-loop-payout
invariant-loop-payout l = (l.self.book ≡ l.initial.self.book) × (l.self.messages ≡ l.initial.self.messages)

abbrev pub decreases-loop-payout : goal.decreases-loop-payout
decreases-loop-payout l = left l.self.validated
