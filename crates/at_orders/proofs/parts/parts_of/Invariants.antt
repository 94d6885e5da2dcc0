use Rattle.at_orders.proofs.Prelude.{contents_of}
use Rattle.at_orders.proofs.Joining.{AreFilesJoined}
use Rattle.at_orders.proofs.parts.parts_of.Given as goal

abbrev pub invariant-loop-process : goal.invariant-loop-process
invariant-loop-process l = AreFilesJoined l.book (contents_of l.files) l.process l.parts
