use Rattle.std.proofs.Common.{List, length}
use Rattle.at_orders.proofs.Prelude.{contents_of, AreAllHeard, AreHeardInPart, Stage}
use Rattle.at_orders.proofs.heard.hear_all.Given as goal

abbrev pub invariant-loop-process : goal.invariant-loop-process
invariant-loop-process l =
    (past : List Stage) → AreAllHeard l.ground past (contents_of l.fn.answers.items) (length l.ground.files)
    → AreHeardInPart l.ground past l.stages (contents_of l.answers.items) l.process
