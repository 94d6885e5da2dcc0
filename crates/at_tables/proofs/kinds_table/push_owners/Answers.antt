use Rattle.std.proofs.Common.{arith}
use Rattle.at_tables.proofs.Prelude.{common_steps}
use Rattle.at_tables.proofs.kinds_table.push_owners.Goals as goal

pub loop-slot-preserved : goal.loop-slot-preserved
loop-slot-preserved c = grind (arith, common_steps)

pub returns : goal.returns
returns c = grind (arith, common_steps)

pub process-requires : goal.process-requires
process-requires c = grind (arith, common_steps)

pub owner-requires-clause-slot_in : goal.owner-requires-clause-slot_in
owner-requires-clause-slot_in c = grind (arith, common_steps)

pub owner-requires-clause-account_in : goal.owner-requires-clause-account_in
owner-requires-clause-account_in c = grind (arith, common_steps)
