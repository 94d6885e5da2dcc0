use Rattle.std.proofs.Common.{arith}
use Rattle.at_tables.proofs.Prelude.{common_steps}
use Rattle.at_tables.proofs.groups.total_in.Goals as goal

pub returns : goal.returns
returns c = grind (arith, common_steps)
