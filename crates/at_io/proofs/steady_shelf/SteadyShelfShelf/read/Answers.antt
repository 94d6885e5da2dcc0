use Rattle.std.proofs.Common.{arith}
use Rattle.at_io.proofs.Prelude.{common_steps}
use Rattle.at_io.proofs.steady_shelf.SteadyShelfShelf.read.Goals as goal

pub returns-clause-end : goal.returns-clause-end
returns-clause-end c = grind (arith, common_steps)

pub returns-clause-bytes : goal.returns-clause-bytes
returns-clause-bytes c = grind (arith, common_steps)
