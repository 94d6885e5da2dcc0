use Rattle.std.proofs.Common.{arith}
use Rattle.at_ledger.proofs.Prelude.{common_steps}
use Rattle.at_ledger.proofs.state.State.count_done.Goals as goal

pub count_asked-requires-clause-room : goal.count_asked-requires-clause-room
count_asked-requires-clause-room c = grind (arith, common_steps)

pub count_asked-requires-clause-process_in : goal.count_asked-requires-clause-process_in
count_asked-requires-clause-process_in c = grind (arith, common_steps)

pub is_shared-requires : goal.is_shared-requires
is_shared-requires c = grind (arith, common_steps)

pub count_sent-requires-clause-process_in : goal.count_sent-requires-clause-process_in
count_sent-requires-clause-process_in c = grind (arith, common_steps)

pub count_asked-requires-clause-account_in : goal.count_asked-requires-clause-account_in
count_asked-requires-clause-account_in c = grind (arith, common_steps)

pub count_sent-requires-clause-room : goal.count_sent-requires-clause-room
count_sent-requires-clause-room c = grind (arith, common_steps)
