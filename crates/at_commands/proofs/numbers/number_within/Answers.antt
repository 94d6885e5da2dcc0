use Rattle.std.proofs.Common.{arith}
use Rattle.at_commands.proofs.Prelude.{common_steps}
use Rattle.at_commands.proofs.numbers.number_within.Goals as goal

pub overflow_cast-result : goal.overflow_cast-result
overflow_cast-result c = grind (arith, common_steps)
