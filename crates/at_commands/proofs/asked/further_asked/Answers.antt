use Rattle.std.proofs.Common.{arith}
use Rattle.at_commands.proofs.Prelude.{common_steps}
use Rattle.at_commands.proofs.asked.further_asked.Goals as goal

pub returns-clause-asked : goal.returns-clause-asked
returns-clause-asked c = grind (arith, common_steps)

pub returns-in_default-clause-asked : goal.returns-in_default-clause-asked
returns-in_default-clause-asked c = grind (arith, common_steps)

pub bounds-words-0 : goal.bounds-words-0
bounds-words-0 c = grind (arith, common_steps)

pub slice_bounds-files-start : goal.slice_bounds-files-start
slice_bounds-files-start c = grind (arith, common_steps)

pub slice_bounds-files-count : goal.slice_bounds-files-count
slice_bounds-files-count c = grind (arith, common_steps)

pub bounds-words-1 : goal.bounds-words-1
bounds-words-1 c = grind (arith, common_steps)
