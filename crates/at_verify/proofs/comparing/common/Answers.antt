use Rattle.std.proofs.Common.{arith}
use Rattle.at_verify.proofs.Prelude.{common_steps}
use Rattle.at_verify.proofs.comparing.common.Goals as goal

pub loop-i-preserved : goal.loop-i-preserved
loop-i-preserved c = grind (arith, common_steps)
