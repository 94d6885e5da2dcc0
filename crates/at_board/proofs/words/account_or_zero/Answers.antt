use Rattle.std.proofs.Common.{arith}
use Rattle.at_board.proofs.Prelude.{common_steps}
use Rattle.at_board.proofs.words.account_or_zero.Goals as goal

pub returns-else-i-len-clause-account : goal.returns-else-i-len-clause-account
returns-else-i-len-clause-account c = grind (arith, common_steps)

pub returns-then-i-len-clause-account : goal.returns-then-i-len-clause-account
returns-then-i-len-clause-account c = grind (arith, common_steps)
