use Rattle.std.proofs.Common.{◌≡◌, replicate}
use Rattle.at_logs.proofs.Prelude.{new_backlog}
use Rattle.at_logs.proofs.compact.new_backlogs.Given as goal

abbrev pub invariant-loop : goal.invariant-loop
invariant-loop l = l.backlogs.items ≡ replicate l.counter (record { kept = new_backlog l.logs; room = 0 })
