use Rattle.std.proofs.Common.{arith}
use Rattle.at_board.proofs.Prelude.{common_steps}
use Rattle.at_board.proofs.words.account_at.Goals as goal

pub returns : goal.returns
returns c = grind (arith, common_steps)
