use Rattle.std.proofs.Common.{arith}
use Rattle.at_orders.proofs.Prelude.{common_steps}
use Rattle.at_orders.proofs.stage.Stage.made.Goals as goal

pub returns : goal.returns
returns c = grind (arith, common_steps)
