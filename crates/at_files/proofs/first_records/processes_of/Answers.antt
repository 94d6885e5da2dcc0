use Rattle.std.proofs.Common.{arith}
use Rattle.at_files.proofs.Prelude.{common_steps}
use Rattle.at_files.proofs.first_records.processes_of.Goals as goal

pub returns-else-version-eq2-clause-bad : goal.returns-else-version-eq2-clause-bad
returns-else-version-eq2-clause-bad c = grind (arith, common_steps)

pub returns-then-version-eq2-clause-ok : goal.returns-then-version-eq2-clause-ok
returns-then-version-eq2-clause-ok c = grind (arith, common_steps)

pub returns-then-version-eq2-clause-bad : goal.returns-then-version-eq2-clause-bad
returns-then-version-eq2-clause-bad c = grind (arith, common_steps)
