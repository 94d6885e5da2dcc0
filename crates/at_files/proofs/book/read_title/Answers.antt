use Rattle.std.proofs.Common.{arith}
use Rattle.at_files.proofs.Prelude.{common_steps}
use Rattle.at_files.proofs.book.read_title.Goals as goal

pub returns-in-Ok-version_of-clause-known : goal.returns-in-Ok-version_of-clause-known
returns-in-Ok-version_of-clause-known c = grind (arith, common_steps)

pub returns-in-Ok-version_of-clause-ok : goal.returns-in-Ok-version_of-clause-ok
returns-in-Ok-version_of-clause-ok c = grind (arith, common_steps)

pub returns-then-not-found-clause-bad : goal.returns-then-not-found-clause-bad
returns-then-not-found-clause-bad c = grind (arith, common_steps)

pub returns-in-Err-clause-bad : goal.returns-in-Err-clause-bad
returns-in-Err-clause-bad c = grind (arith, common_steps)
