use Rattle.std.proofs.Common.{arith}
use Rattle.at_broadcast.proofs.Prelude.{common_steps}
use Rattle.at_broadcast.proofs.progress.Progress.is_delivered.Goals as goal

pub returns : goal.returns
returns c = grind (arith, common_steps)
