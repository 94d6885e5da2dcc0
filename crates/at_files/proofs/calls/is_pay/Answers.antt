use Rattle.std.proofs.Common.{arith}
use Rattle.at_files.proofs.Prelude.{common_steps}
use Rattle.at_files.proofs.calls.is_pay.Goals as goal

pub returns-then-has_shape-3 : goal.returns-then-has_shape-3
returns-then-has_shape-3 c = grind (arith, common_steps)

pub returns-else-has_shape-3 : goal.returns-else-has_shape-3
returns-else-has_shape-3 c = grind (arith, common_steps)
