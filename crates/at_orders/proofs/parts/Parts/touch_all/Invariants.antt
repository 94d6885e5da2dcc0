use Rattle.at_orders.proofs.Prelude.{Touch}
use Rattle.at_orders.proofs.Joining.{IsTargetBefore}
use Rattle.at_orders.proofs.parts.Parts.touch_all.Given as goal

abbrev pub invariant-loop-i : goal.invariant-loop-i
invariant-loop-i l = Touch l.book l.left l.process (IsTargetBefore l.targets l.i) l.fn.self l.self
