use Rattle.std.proofs.Common.{arith}
use Rattle.at_ledger.proofs.Prelude.{common_steps}
use Rattle.at_ledger.proofs.builder.BookBuilder.add.Goals as goal

pub invariant_of-self : goal.invariant_of-self
invariant_of-self c = grind (arith, common_steps)

pub returns-then-is_err-clause-err : goal.returns-then-is_err-clause-err
returns-then-is_err-clause-err c = grind (arith, common_steps)

pub returns-clause-ok : goal.returns-clause-ok
returns-clause-ok c = grind (arith, common_steps)

pub returns-clause-bad : goal.returns-clause-bad
returns-clause-bad c = grind (arith, common_steps)

pub returns-then-is_err-clause-bad : goal.returns-then-is_err-clause-bad
returns-then-is_err-clause-bad c = grind (arith, common_steps)
