use Rattle.std.proofs.Common.{take}
use Rattle.at_orders.proofs.Prelude.{PaysIn, Touch}
use Rattle.at_orders.proofs.parts.Parts.add_file.Given as goal

abbrev pub invariant-loop-call : goal.invariant-loop-call
invariant-loop-call l = Touch l.book l.left l.process (PaysIn l.book l.process (take l.call-index l.file)) l.fn.self l.self
