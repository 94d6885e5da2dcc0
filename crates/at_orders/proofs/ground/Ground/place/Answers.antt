use Rattle.std.proofs.Common.{arith}
use Rattle.at_orders.proofs.Prelude.{common_steps}
use Rattle.at_orders.proofs.ground.Ground.place.Goals as goal

pub returns-clause-within : goal.returns-clause-within
returns-clause-within c = grind (arith, common_steps)

pub returns-clause-place : goal.returns-clause-place
returns-clause-place c = grind (arith, common_steps)

pub index-requires : goal.index-requires
index-requires c = grind (arith, common_steps)
