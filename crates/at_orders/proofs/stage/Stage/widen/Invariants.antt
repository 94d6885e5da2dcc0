use Rattle.at_orders.proofs.Spanning.{AreWidened}
use Rattle.at_orders.proofs.stage.Stage.widen.Given as goal

abbrev pub invariant-loop-place : goal.invariant-loop-place
invariant-loop-place l = AreWidened l.self.balances.items l.fn.spans l.spans l.place
