use Rattle.std.proofs.Common.{arith}
use Rattle.at_machines.proofs.Prelude.{common_steps}
use Rattle.at_machines.proofs.catching_up.CatchingUp.start.Goals as goal

pub at-requires-clause-so_far : goal.at-requires-clause-so_far
at-requires-clause-so_far c = grind (arith, common_steps)
