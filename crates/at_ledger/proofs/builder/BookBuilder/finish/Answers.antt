use Rattle.std.proofs.Common.{arith}
use Rattle.at_ledger.proofs.Prelude.{common_steps}
use Rattle.at_ledger.proofs.builder.BookBuilder.finish.Goals as goal

pub returns-then-is_empty-clause-bad : goal.returns-then-is_empty-clause-bad
returns-then-is_empty-clause-bad c = grind (arith, common_steps)

pub returns-clause-checked : goal.returns-clause-checked
returns-clause-checked c = grind (arith, common_steps)
