use Rattle.std.proofs.Common.{arith}
use Rattle.at_follow.proofs.Prelude.{common_steps}
use Rattle.at_follow.proofs.printing.push_targets.Goals as goal

pub loop-i-preserved : goal.loop-i-preserved
loop-i-preserved c = grind (arith, common_steps)

pub returns : goal.returns
returns c = grind (arith, common_steps)
