use Rattle.std.proofs.Common.{arith}
use Rattle.at_broadcast.proofs.Prelude.{common_steps}
use Rattle.at_broadcast.proofs.log_book.LogBook.openings.Goals as goal

pub loop-account-preserved : goal.loop-account-preserved
loop-account-preserved c = grind (arith, common_steps)

pub returns-clause-openings : goal.returns-clause-openings
returns-clause-openings c = grind (arith, common_steps)
