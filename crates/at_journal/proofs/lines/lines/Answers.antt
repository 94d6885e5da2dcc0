use Rattle.std.proofs.Common.{arith}
use Rattle.at_journal.proofs.Prelude.{common_steps}
use Rattle.at_journal.proofs.lines.lines.Goals as goal

pub loop-one-preserved : goal.loop-one-preserved
loop-one-preserved c = grind (arith, common_steps)

pub returns : goal.returns
returns c = grind (arith, common_steps)
