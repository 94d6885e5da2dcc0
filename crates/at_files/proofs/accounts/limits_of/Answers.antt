use Rattle.std.proofs.Common.{arith}
use Rattle.at_files.proofs.Prelude.{common_steps}
use Rattle.at_files.proofs.accounts.limits_of.Goals as goal

pub returns-then-has_shape : goal.returns-then-has_shape
returns-then-has_shape c = grind (arith, common_steps)
