use Rattle.std.proofs.Common.{arith}
use Rattle.at_tables.proofs.Prelude.{common_steps}
use Rattle.at_tables.proofs.groups.owners_of.Goals as goal

pub returns-clause-owners : goal.returns-clause-owners
returns-clause-owners c = grind (arith, common_steps)

pub loop-slot-preserved : goal.loop-slot-preserved
loop-slot-preserved c = grind (arith, common_steps)

pub returns-clause-known : goal.returns-clause-known
returns-clause-known c = grind (arith, common_steps)

pub owner-requires-clause-slot_in : goal.owner-requires-clause-slot_in
owner-requires-clause-slot_in c = grind (arith, common_steps)
