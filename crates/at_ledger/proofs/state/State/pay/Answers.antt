use Rattle.std.proofs.Common.{arith}
use Rattle.at_ledger.proofs.Prelude.{common_steps}
use Rattle.at_ledger.proofs.state.State.pay.Goals as goal

pub move_amounts-requires-clause-targets_in : goal.move_amounts-requires-clause-targets_in
move_amounts-requires-clause-targets_in c = grind (arith, common_steps)

pub count_done-requires-clause-source_in : goal.count_done-requires-clause-source_in
count_done-requires-clause-source_in c = grind (arith, common_steps)

pub count_done-requires-clause-process_in : goal.count_done-requires-clause-process_in
count_done-requires-clause-process_in c = grind (arith, common_steps)

pub is_full-requires-clause-process_in : goal.is_full-requires-clause-process_in
is_full-requires-clause-process_in c = grind (arith, common_steps)

pub balance-requires : goal.balance-requires
balance-requires c = grind (arith, common_steps)

pub is_full-requires-clause-source_in : goal.is_full-requires-clause-source_in
is_full-requires-clause-source_in c = grind (arith, common_steps)

pub count_short-requires-clause-process_in : goal.count_short-requires-clause-process_in
count_short-requires-clause-process_in c = grind (arith, common_steps)

pub move_amounts-requires-clause-covered : goal.move_amounts-requires-clause-covered
move_amounts-requires-clause-covered c = grind (arith, common_steps)

pub is_owner-requires : goal.is_owner-requires
is_owner-requires c = grind (arith, common_steps)

pub count_done-requires-clause-owner : goal.count_done-requires-clause-owner
count_done-requires-clause-owner c = grind (arith, common_steps)

pub move_amounts-requires-clause-source_in : goal.move_amounts-requires-clause-source_in
move_amounts-requires-clause-source_in c = grind (arith, common_steps)

pub count_short-requires-clause-source_in : goal.count_short-requires-clause-source_in
count_short-requires-clause-source_in c = grind (arith, common_steps)

pub returns-clause-book : goal.returns-clause-book
returns-clause-book c = grind (arith, common_steps)

pub returns-then-is_full-clause-state : goal.returns-then-is_full-clause-state
returns-then-is_full-clause-state c = grind (arith, common_steps)

pub returns-then-from-sum-clause-book : goal.returns-then-from-sum-clause-book
returns-then-from-sum-clause-book c = grind (arith, common_steps)

pub count_done-requires-clause-room : goal.count_done-requires-clause-room
count_done-requires-clause-room c = grind (arith, common_steps)

pub count_short-requires-clause-room : goal.count_short-requires-clause-room
count_short-requires-clause-room c = grind (arith, common_steps)
