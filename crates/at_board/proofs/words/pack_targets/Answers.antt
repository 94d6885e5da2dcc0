use Rattle.std.proofs.Common.{arith}
use Rattle.at_board.proofs.Prelude.{common_steps}
use Rattle.at_board.proofs.words.pack_targets.Goals as goal

pub returns-clause-packed : goal.returns-clause-packed
returns-clause-packed c = grind (arith, common_steps)

pub returns-clause-word : goal.returns-clause-word
returns-clause-word c = grind (arith, common_steps)
