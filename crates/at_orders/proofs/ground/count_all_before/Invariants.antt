use Rattle.std.proofs.Common.{take}
use Rattle.at_orders.proofs.Prelude.{contents_of, AreAllCountedBefore}
use Rattle.at_orders.proofs.ground.count_all_before.Given as goal

abbrev pub invariant-loop-file : goal.invariant-loop-file
invariant-loop-file l = AreAllCountedBefore (take l.file-index (contents_of l.files)) (contents_of l.before.items)
