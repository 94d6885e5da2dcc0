use Rattle.std.proofs.Common.{◌≡◌, replicate}
use Rattle.at_logs.specs.Reading.{no_tail}
use Rattle.at_logs.proofs.node.new_tails.Given as goal

abbrev pub invariant-loop : goal.invariant-loop
invariant-loop l = l.tails.items ≡ replicate l.counter (no_tail l.logs)
