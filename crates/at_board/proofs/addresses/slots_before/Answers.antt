use Rattle.std.proofs.Common.{arith}
use Rattle.at_board.proofs.Prelude.{common_steps}
use Rattle.at_board.proofs.addresses.slots_before.Goals as goal

pub loop-account-preserved : goal.loop-account-preserved
loop-account-preserved c = grind (arith, common_steps)

pub returns : goal.returns
returns c = grind (arith, common_steps)

pub slot_count-next-requires : goal.slot_count-next-requires
slot_count-next-requires c = grind (arith, common_steps)

pub overflow_add-next : goal.overflow_add-next
overflow_add-next c = grind (arith, common_steps)
