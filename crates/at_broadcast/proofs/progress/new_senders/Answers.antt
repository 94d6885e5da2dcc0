use Rattle.std.proofs.Common.{arith}
use Rattle.at_broadcast.proofs.Prelude.{common_steps}
use Rattle.at_broadcast.proofs.progress.new_senders.Goals as goal

pub loop-log-preserved : goal.loop-log-preserved
loop-log-preserved c = grind (arith, common_steps)
