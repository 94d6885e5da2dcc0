use Rattle.std.proofs.Common.{arith}
use Rattle.at_orders.proofs.Prelude.{common_steps}
use Rattle.at_orders.specs.Trail.{hash_of}
use Rattle.at_orders.proofs.stage.Stage.hash.Goals as goal

pub returns : goal.returns
unfolding hash_of
returns c = grind (arith, common_steps)
