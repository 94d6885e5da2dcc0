use Rattle.std.proofs.Common.{arith}
use Rattle.at_board.proofs.Prelude.{common_steps}
use Rattle.at_board.proofs.words.amount_or_zero.Goals as goal

pub returns-else-i-len : goal.returns-else-i-len
returns-else-i-len c = grind (arith, common_steps)
