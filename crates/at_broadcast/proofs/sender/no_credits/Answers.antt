use Rattle.std.proofs.Common.{arith}
use Rattle.at_broadcast.proofs.Prelude.{common_steps}
use Rattle.at_broadcast.proofs.sender.no_credits.Goals as goal

pub loop-account-preserved : goal.loop-account-preserved
loop-account-preserved c = grind (arith, common_steps)

pub returns : goal.returns
returns c = grind (arith, common_steps)
