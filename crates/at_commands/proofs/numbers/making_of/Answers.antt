use Rattle.std.proofs.Common.{arith}
use Rattle.at_commands.proofs.Prelude.{common_steps}
use Rattle.at_commands.proofs.numbers.making_of.Goals as goal

pub returns-clause-may : goal.returns-clause-may
returns-clause-may c = grind (arith, common_steps)

pub returns-in_err-calls-clause-may : goal.returns-in_err-calls-clause-may
returns-in_err-calls-clause-may c = grind (arith, common_steps)

pub returns-in_err-processes-clause-may : goal.returns-in_err-processes-clause-may
returns-in_err-processes-clause-may c = grind (arith, common_steps)

pub returns-in_err-first-clause-may : goal.returns-in_err-first-clause-may
returns-in_err-first-clause-may c = grind (arith, common_steps)
