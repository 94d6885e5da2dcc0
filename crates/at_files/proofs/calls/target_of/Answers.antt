use Rattle.std.proofs.Common.{arith}
use Rattle.at_files.proofs.Prelude.{common_steps}
use Rattle.at_files.proofs.calls.target_of.Goals as goal

pub returns-in-Some-Some-clause-target : goal.returns-in-Some-Some-clause-target
returns-in-Some-Some-clause-target c = grind (arith, common_steps)
