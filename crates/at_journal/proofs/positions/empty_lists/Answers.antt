use Rattle.std.proofs.Common.{arith}
use Rattle.at_journal.proofs.Prelude.{common_steps}
use Rattle.at_journal.proofs.positions.empty_lists.Goals as goal

pub loop-list-preserved : goal.loop-list-preserved
loop-list-preserved c = grind (arith, common_steps)

pub returns : goal.returns
returns c = grind (arith, common_steps)
