use Rattle.std.proofs.Common.{◌++◌, List, [], get_or, take}
use Rattle.at_orders.proofs.Prelude.{AreHeard, Stage}
use Rattle.at_orders.proofs.heard.hear.Given as goal

abbrev pub invariant-loop-stage : goal.invariant-loop-stage
invariant-loop-stage l = (past : List Stage) → AreHeard l.ground (get_or l.ground.files l.process []) past l.process l.fn.replies
    → AreHeard l.ground (get_or l.ground.files l.process []) (past ++ take l.stage-index l.stages) l.process l.replies
