use Rattle.std.proofs.Common.{[]}
use Rattle.at_orders.proofs.Prelude.{contents_of, AreAllHeard}
use Rattle.at_orders.proofs.heard.silent.Given as goal

abbrev pub invariant-loop-process : goal.invariant-loop-process
invariant-loop-process l = AreAllHeard l.ground [] (contents_of l.answers.items) l.process
