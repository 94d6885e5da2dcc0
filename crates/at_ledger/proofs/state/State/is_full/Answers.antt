use Rattle.std.proofs.Common.{arith}
use Rattle.at_ledger.proofs.Prelude.{common_steps}
use Rattle.at_ledger.proofs.state.State.is_full.Goals as goal

pub returns-then-is_single : goal.returns-then-is_single
returns-then-is_single c = grind (arith, common_steps)

pub asked-requires-clause-process_in : goal.asked-requires-clause-process_in
asked-requires-clause-process_in c = grind (arith, common_steps)

pub asked-requires-clause-account_in : goal.asked-requires-clause-account_in
asked-requires-clause-account_in c = grind (arith, common_steps)

pub is_shared-requires : goal.is_shared-requires
is_shared-requires c = grind (arith, common_steps)

pub is_single-requires : goal.is_single-requires
is_single-requires c = grind (arith, common_steps)

pub sent-requires : goal.sent-requires
sent-requires c = grind (arith, common_steps)
