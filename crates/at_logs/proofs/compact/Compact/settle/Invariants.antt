use Rattle.at_logs.proofs.Prelude.{ValidatesFrom, left}
use Rattle.at_logs.proofs.compact.Compact.settle.Given as goal

abbrev pub invariant-loop-payout : goal.invariant-loop-payout
invariant-loop-payout l = ValidatesFrom l.initial.self l.self

abbrev pub decreases-loop-payout : goal.decreases-loop-payout
decreases-loop-payout l = left l.self.validated
