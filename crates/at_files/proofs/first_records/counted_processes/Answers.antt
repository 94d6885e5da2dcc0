use Rattle.std.proofs.Common.{arith}
use Rattle.at_files.proofs.Prelude.{common_steps}
use Rattle.at_files.proofs.first_records.counted_processes.Goals as goal

pub returns-then-not-has_shape-clause-bad : goal.returns-then-not-has_shape-clause-bad
returns-then-not-has_shape-clause-bad c = grind (arith, common_steps)

pub returns-in-Ok-plain_names-clause-bad : goal.returns-in-Ok-plain_names-clause-bad
returns-in-Ok-plain_names-clause-bad c = grind (arith, common_steps)

pub returns-in-Ok-plain_names-clause-ok : goal.returns-in-Ok-plain_names-clause-ok
returns-in-Ok-plain_names-clause-ok c = grind (arith, common_steps)

pub overflow_cast-count : goal.overflow_cast-count
overflow_cast-count c = grind (arith, common_steps)

pub returns-in-Err-plain_names-clause-bad : goal.returns-in-Err-plain_names-clause-bad
returns-in-Err-plain_names-clause-bad c = grind (arith, common_steps)

pub returns-in-Err-clause-bad : goal.returns-in-Err-clause-bad
returns-in-Err-clause-bad c = grind (arith, common_steps)
