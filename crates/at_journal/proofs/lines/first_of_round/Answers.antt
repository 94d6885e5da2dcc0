use Rattle.std.proofs.Common.{arith}
use Rattle.at_journal.proofs.Prelude.{common_steps}
use Rattle.at_journal.proofs.lines.first_of_round.Goals as goal

pub index-requires : goal.index-requires
index-requires c = grind (arith, common_steps)

pub returns : goal.returns
returns c = grind (arith, common_steps)
