use Rattle.std.proofs.Common.{arith}
use Rattle.at_broadcast.proofs.Prelude.{common_steps}
use Rattle.at_broadcast.proofs.progress.Progress.is_valid.Goals as goal

pub returns-else-covers : goal.returns-else-covers
returns-else-covers c = grind (arith, common_steps)

pub returns-then-covers : goal.returns-then-covers
returns-then-covers c = grind (arith, common_steps)
