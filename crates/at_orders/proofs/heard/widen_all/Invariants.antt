use Rattle.std.proofs.Common.{◌≡◌, ◌++◌, List, length, take}
use Rattle.at_orders.proofs.Prelude.{AreSpans, Stage}
use Rattle.at_orders.proofs.heard.widen_all.Given as goal

abbrev pub invariant-loop-stage : goal.invariant-loop-stage
invariant-loop-stage l = record {
  size : length l.spans ≡ length l.fn.spans;
  spans : (past : List Stage) → AreSpans l.ground past l.fn.spans → AreSpans l.ground (past ++ take l.stage-index l.stages) l.spans;
}
