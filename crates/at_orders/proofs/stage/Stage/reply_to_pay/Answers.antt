use Rattle.std.proofs.Common.{arith}
use Rattle.at_orders.proofs.Prelude.{common_steps}
use Rattle.at_orders.proofs.stage.Stage.reply_to_pay.Goals as goal

pub returns-then-is_full : goal.returns-then-is_full
returns-then-is_full c = grind (arith, common_steps)

pub is_full-requires-clause-source_in : goal.is_full-requires-clause-source_in
is_full-requires-clause-source_in c = grind (arith, common_steps)

pub slot_of-requires : goal.slot_of-requires
slot_of-requires c = grind (arith, common_steps)

pub returns-then-is_none : goal.returns-then-is_none
returns-then-is_none c = grind (arith, common_steps)

pub is_full-requires-clause-process_in : goal.is_full-requires-clause-process_in
is_full-requires-clause-process_in c = grind (arith, common_steps)

pub is_full-requires-clause-owner : goal.is_full-requires-clause-owner
is_full-requires-clause-owner c = grind (arith, common_steps)
