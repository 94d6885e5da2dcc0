use Rattle.std.proofs.Common.{arith}
use Rattle.at_machines.proofs.Prelude.{common_steps}
use Rattle.at_machines.proofs.CatchingUpLaws.{count_of-left}
use Rattle.at_machines.proofs.catching_up.CatchingUp.at.Goals as goal

pub next_record-loading-requires-clause-seen : goal.next_record-loading-requires-clause-seen
next_record-loading-requires-clause-seen c = λ inside.
    count_of-left c.args.seat.now.knows c.args.counts c.args.totals.now.upto c.args.totals.now c.args.process c.first_left-process.result c.requires.so_far inside
    (c.first_left-process.ensures.left inside)

pub invariant_of-result : goal.invariant_of-result
invariant_of-result c = grind (arith, common_steps)

pub returns-clause-loaded : goal.returns-clause-loaded
returns-clause-loaded c = grind (arith, common_steps)

pub returns-clause-knows : goal.returns-clause-knows
returns-clause-knows c = grind (arith, common_steps)

pub returns-clause-words : goal.returns-clause-words
returns-clause-words c = grind (arith, common_steps)
