use Rattle.std.proofs.Common.{arith}
use Rattle.at_machines.proofs.Prelude.{common_steps}
use Rattle.at_machines.proofs.looking.Looking.start.Goals as goal

pub invariant_of-result : goal.invariant_of-result
invariant_of-result c = grind (arith, common_steps)
