use Rattle.std.proofs.Common.{arith}
use Rattle.at_machines.proofs.Prelude.{common_steps}
use Rattle.at_machines.proofs.snapping.Snapping.turn.Goals as goal

pub invariant_of-self : goal.invariant_of-self
invariant_of-self c = grind (arith, common_steps)

pub returns-clause-loads : goal.returns-clause-loads
returns-clause-loads c = grind (arith, common_steps)

pub returns-clause-left : goal.returns-clause-left
returns-clause-left c = grind (arith, common_steps)

pub returns-clause-load : goal.returns-clause-load
returns-clause-load c = grind (arith, common_steps)

pub returns-clause-start : goal.returns-clause-start
returns-clause-start c = grind (arith, common_steps)

pub returns-clause-mark : goal.returns-clause-mark
returns-clause-mark c = grind (arith, common_steps)

pub returns-clause-next : goal.returns-clause-next
returns-clause-next c = grind (arith, common_steps)

pub returns-clause-snapshot : goal.returns-clause-snapshot
returns-clause-snapshot c = grind (arith, common_steps)

pub returns-clause-collects : goal.returns-clause-collects
returns-clause-collects c = grind (arith, common_steps)
