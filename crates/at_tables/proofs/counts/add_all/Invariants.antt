use Rattle.std.proofs.Common.{◌-◌, length, take}
use Rattle.at_tables.proofs.Prelude.{AreCounted, HasRoomToCount}
use Rattle.at_tables.proofs.counts.add_all.Given as goal

abbrev pub invariant-loop-call : goal.invariant-loop-call
invariant-loop-call l = record {
  counted : AreCounted l.book l.process (take l.call-index l.calls) l.initial.counts l.counts;
  room : HasRoomToCount l.counts (length l.calls - l.call-index);
}
