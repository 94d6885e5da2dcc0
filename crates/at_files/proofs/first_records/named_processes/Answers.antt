use Rattle.std.proofs.Common.{arith}
use Rattle.at_files.proofs.Prelude.{common_steps}
use Rattle.at_files.proofs.first_records.named_processes.Goals as goal

pub returns-clause-ok : goal.returns-clause-ok
returns-clause-ok c = grind (arith, common_steps)

pub returns-clause-bad : goal.returns-clause-bad
returns-clause-bad c = grind (arith, common_steps)

pub returns-then-len-eq1-clause-bad : goal.returns-then-len-eq1-clause-bad
returns-then-len-eq1-clause-bad c = grind (arith, common_steps)

pub returns-then-not-is_word-clause-bad : goal.returns-then-not-is_word-clause-bad
returns-then-not-is_word-clause-bad c = grind (arith, common_steps)
