use Rattle.std.proofs.Common.{◌<◌, List}
use Rattle.at_orders.proofs.Prelude.{IsAt, IsTrail, Looks, Stage}
use Rattle.at_orders.proofs.walk.look.Given as goal

abbrev pub invariant-loop-process : goal.invariant-loop-process
invariant-loop-process l = (stages : List Stage) → IsTrail l.ground l.fn.trail stages → IsAt stages l.at l.stage → Looks l.ground l.fn.trail l.trail stages l.stage (λ p. p < l.process)
