use Rattle.std.proofs.Common.{arith}
use Rattle.at_commands.proofs.Prelude.{common_steps}
use Rattle.at_commands.proofs.numbers.value_of.Goals as goal

pub returns-in_err-n-clause-below : goal.returns-in_err-n-clause-below
returns-in_err-n-clause-below c = grind (arith, common_steps)
