use Rattle.std.proofs.Common.{arith}
use Rattle.at_orders.proofs.Prelude.{common_steps}
use Rattle.at_orders.proofs.ground.Ground.named.Goals as goal

pub returns-clause-known : goal.returns-clause-known
returns-clause-known c = grind (arith, common_steps)
