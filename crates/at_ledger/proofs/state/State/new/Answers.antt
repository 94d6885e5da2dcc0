use Rattle.std.proofs.Common.{arith}
use Rattle.at_ledger.proofs.Prelude.{common_steps}
use Rattle.at_ledger.proofs.state.State.new.Goals as goal

pub invariant_of-result : goal.invariant_of-result
invariant_of-result c = grind (arith, common_steps)

pub overflow_mul-processes : goal.overflow_mul-processes
overflow_mul-processes c = grind (arith, common_steps)

pub same-result : goal.same-result
same-result c = grind (arith, common_steps)
