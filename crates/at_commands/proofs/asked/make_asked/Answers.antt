use Rattle.std.proofs.Common.{arith}
use Rattle.at_commands.proofs.Prelude.{common_steps}
use Rattle.at_commands.proofs.asked.make_asked.Goals as goal

pub returns-clause-asked : goal.returns-clause-asked
returns-clause-asked c = grind (arith, common_steps)

pub returns-in_err-making-clause-asked : goal.returns-in_err-making-clause-asked
returns-in_err-making-clause-asked c = grind (arith, common_steps)

pub returns-in_err-making-clause-limits : goal.returns-in_err-making-clause-limits
returns-in_err-making-clause-limits c = grind (arith, common_steps)

pub bounds-words-2 : goal.bounds-words-2
bounds-words-2 c = grind (arith, common_steps)

pub bounds-words-1 : goal.bounds-words-1
bounds-words-1 c = grind (arith, common_steps)

pub bounds-words-0 : goal.bounds-words-0
bounds-words-0 c = grind (arith, common_steps)

pub returns-in_default-clause-asked : goal.returns-in_default-clause-asked
returns-in_default-clause-asked c = grind (arith, common_steps)
