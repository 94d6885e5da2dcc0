use Rattle.std.proofs.Common.{arith}
use Rattle.at_machines.proofs.Prelude.{common_steps}
use Rattle.at_machines.proofs.collecting.Collecting.start.Goals as goal

pub invariant_of-result : goal.invariant_of-result
invariant_of-result c = grind (arith, common_steps)

pub zeros-requires-clause-some : goal.zeros-requires-clause-some
zeros-requires-clause-some c = grind (arith, common_steps)

pub returns : goal.returns
returns c = grind (arith, common_steps)

pub zeros-requires-clause-few : goal.zeros-requires-clause-few
zeros-requires-clause-few c = grind (arith, common_steps)
