use Rattle.std.proofs.Common.{arith}
use Rattle.at_files.proofs.Prelude.{common_steps}
use Rattle.at_files.proofs.calls.plain_call_of.Goals as goal

pub returns-then-has_shape : goal.returns-then-has_shape
returns-then-has_shape c = grind (arith, common_steps)

pub returns-then-has_shape-2 : goal.returns-then-has_shape-2
returns-then-has_shape-2 c = grind (arith, common_steps)
