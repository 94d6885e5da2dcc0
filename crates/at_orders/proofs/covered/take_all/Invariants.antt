use Rattle.std.proofs.Common.{take}
use Rattle.at_orders.proofs.Prelude.{AreLeft, asked_in_file}
use Rattle.at_orders.proofs.covered.take_all.Given as goal

abbrev pub invariant-loop-call : goal.invariant-loop-call
invariant-loop-call l = AreLeft l.book (λ a. asked_in_file l.book l.process a (take l.call-index l.file)) l.fn.left l.left
