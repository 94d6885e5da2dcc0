use Rattle.std.proofs.Common.{arith}
use Rattle.at_io.proofs.Prelude.{common_steps}
use Rattle.at_io.proofs.held_files.position_of.Goals as goal

pub position-requires-clause-callable : goal.position-requires-clause-callable
position-requires-clause-callable c = grind (arith, common_steps)

pub position-requires-clause-fits : goal.position-requires-clause-fits
position-requires-clause-fits c = grind (arith, common_steps)
