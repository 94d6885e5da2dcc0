use Rattle.std.proofs.Common.{List}
use Rattle.at_orders.proofs.Prelude.{IsTrail, Stage}
use Rattle.at_orders.proofs.Trails.{IsAmong, bound_of}
use Rattle.at_orders.proofs.trail.Trail.has.Given as goal

abbrev pub invariant-loop-at : goal.invariant-loop-at
invariant-loop-at l = (stages : List Stage) → IsTrail l.ground l.self stages → IsAmong stages l.self.begun l.stage l.at

abbrev pub decreases-loop-at : goal.decreases-loop-at
decreases-loop-at l = bound_of l.at
