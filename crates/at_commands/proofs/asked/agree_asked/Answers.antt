use Rattle.std.proofs.Common.{arith}
use Rattle.at_commands.proofs.Prelude.{common_steps}
use Rattle.at_commands.proofs.asked.agree_asked.Goals as goal

pub returns-clause-asked : goal.returns-clause-asked
returns-clause-asked c = grind (arith, common_steps)

pub returns-in_err-values-clause-limits : goal.returns-in_err-values-clause-limits
returns-in_err-values-clause-limits c = grind (arith, common_steps)

pub returns-clause-limits : goal.returns-clause-limits
returns-clause-limits c = grind (arith, common_steps)

pub returns-then-words-lt-VALUES_MIN-clause-asked : goal.returns-then-words-lt-VALUES_MIN-clause-asked
returns-then-words-lt-VALUES_MIN-clause-asked c = grind (arith, common_steps)

pub values_of-requires : goal.values_of-requires
values_of-requires c = grind (arith, common_steps)
