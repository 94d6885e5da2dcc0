use Rattle.at_orders.proofs.Joining.{AreRenamed}
use Rattle.at_orders.proofs.parts.unite.Given as goal

abbrev pub invariant-loop-p : goal.invariant-loop-p
invariant-loop-p l = AreRenamed l.from l.to l.fn.parts l.parts l.p
