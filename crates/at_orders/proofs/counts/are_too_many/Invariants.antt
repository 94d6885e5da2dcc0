use Rattle.std.proofs.Common.{◌≤◌}
use Rattle.at_orders.proofs.Prelude.{HasStagesApart}
use Rattle.at_orders.proofs.counts.are_too_many.Given as goal

abbrev pub invariant-loop-process : goal.invariant-loop-process
invariant-loop-process l = record {
  counted : HasStagesApart l.ground.book l.ground.files l.process l.counts;
  few : l.counts ≤ 1048576;
}
