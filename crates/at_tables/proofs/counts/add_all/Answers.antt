use Rattle.std.proofs.Common.{arith}
use Rattle.at_tables.proofs.Prelude.{common_steps}
use Rattle.at_tables.proofs.counts.add_all.Goals as goal

pub loop-call-preserved : goal.loop-call-preserved
loop-call-preserved c = grind (arith, common_steps)

pub returns : goal.returns
returns c = grind (arith, common_steps)

pub add-requires-clause-call_in : goal.add-requires-clause-call_in
add-requires-clause-call_in c = grind (arith, common_steps)

pub add-requires-clause-room : goal.add-requires-clause-room
add-requires-clause-room c = grind (arith, common_steps)

pub add-requires-clause-accounts : goal.add-requires-clause-accounts
add-requires-clause-accounts c = grind (arith, common_steps)
