use Rattle.std.proofs.Common.{arith}
use Rattle.at_follow.proofs.Prelude.{common_steps}
use Rattle.at_follow.proofs.printing.push_target.Goals as goal

pub returns : goal.returns
returns c = grind (arith, common_steps)
