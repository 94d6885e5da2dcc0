use Rattle.std.proofs.Common.{◌*◌, ◌-◌}
use Rattle.at_tables.proofs.Prelude.{contents_of, AreCounts, HasRoomToCount}
use Rattle.at_tables.proofs.counts.count.Given as goal

abbrev pub invariant-loop-process : goal.invariant-loop-process
invariant-loop-process l = record {
  counts : AreCounts l.book (contents_of l.files) l.process l.counts;
  room : HasRoomToCount l.counts (16384 * (16 - l.process));
}
