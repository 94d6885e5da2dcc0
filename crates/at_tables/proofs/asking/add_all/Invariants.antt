use Rattle.std.proofs.Common.{take}
use Rattle.at_tables.proofs.Prelude.{AreAddedUp}
use Rattle.at_tables.proofs.asking.add_all.Given as goal

abbrev pub invariant-loop-call : goal.invariant-loop-call
invariant-loop-call l = AreAddedUp l.book l.process (take l.call-index l.file) l.fn.row l.row
