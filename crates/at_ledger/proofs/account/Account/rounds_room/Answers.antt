use Rattle.std.proofs.Common.{arith}
use Rattle.at_ledger.proofs.Prelude.{common_steps}
use Rattle.at_ledger.proofs.account.Account.rounds_room.Goals as goal

pub overflow_mul-result : goal.overflow_mul-result
overflow_mul-result c = grind (arith, common_steps)

pub returns-then-is_shared-clause-few : goal.returns-then-is_shared-clause-few
returns-then-is_shared-clause-few c = grind (arith, common_steps)

pub returns-then-is_shared-clause-room : goal.returns-then-is_shared-clause-room
returns-then-is_shared-clause-room c = grind (arith, common_steps)
