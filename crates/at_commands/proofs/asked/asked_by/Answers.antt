use Rattle.std.proofs.Common.{arith}
use Rattle.at_commands.proofs.Prelude.{common_steps}
use Rattle.at_commands.proofs.asked.asked_by.Goals as goal

pub returns-in-make-clause-asked : goal.returns-in-make-clause-asked
returns-in-make-clause-asked c = grind (arith, common_steps)

pub returns-in-agree-clause-asked : goal.returns-in-agree-clause-asked
returns-in-agree-clause-asked c = grind (arith, common_steps)

pub returns-in-replay-clause-asked : goal.returns-in-replay-clause-asked
returns-in-replay-clause-asked c = grind (arith, common_steps)

pub returns-in-deliver-clause-asked : goal.returns-in-deliver-clause-asked
returns-in-deliver-clause-asked c = grind (arith, common_steps)

pub returns-in-verify-clause-asked : goal.returns-in-verify-clause-asked
returns-in-verify-clause-asked c = grind (arith, common_steps)

pub returns-in-check-clause-asked : goal.returns-in-check-clause-asked
returns-in-check-clause-asked c = grind (arith, common_steps)

pub returns-in-run-clause-asked : goal.returns-in-run-clause-asked
returns-in-run-clause-asked c = grind (arith, common_steps)

pub returns-in_default-clause-asked : goal.returns-in_default-clause-asked
returns-in_default-clause-asked c = grind (arith, common_steps)

pub bounds-words-0 : goal.bounds-words-0
bounds-words-0 c = grind (arith, common_steps)

pub slice_bounds-words-start : goal.slice_bounds-words-start
slice_bounds-words-start c = grind (arith, common_steps)

pub slice_bounds-words-count : goal.slice_bounds-words-count
slice_bounds-words-count c = grind (arith, common_steps)

pub returns-in-kinds-clause-asked : goal.returns-in-kinds-clause-asked
returns-in-kinds-clause-asked c = grind (arith, common_steps)

pub returns-in-needs-clause-asked : goal.returns-in-needs-clause-asked
returns-in-needs-clause-asked c = grind (arith, common_steps)

pub returns-in-orders-clause-asked : goal.returns-in-orders-clause-asked
returns-in-orders-clause-asked c = grind (arith, common_steps)

pub returns-in-costs-clause-asked : goal.returns-in-costs-clause-asked
returns-in-costs-clause-asked c = grind (arith, common_steps)

pub returns-in-ledger-clause-asked : goal.returns-in-ledger-clause-asked
returns-in-ledger-clause-asked c = grind (arith, common_steps)

pub returns-in-trace-clause-asked : goal.returns-in-trace-clause-asked
returns-in-trace-clause-asked c = grind (arith, common_steps)

pub returns-in-show-clause-asked : goal.returns-in-show-clause-asked
returns-in-show-clause-asked c = grind (arith, common_steps)
