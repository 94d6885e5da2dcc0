use Rattle.std.proofs.Common.{◌≡◌, ◌-◌, length, take}
use Rattle.std.specs.Int.{w32}
use Rattle.at_logs.proofs.Prelude.{read_items, read_number}
use Rattle.at_logs.proofs.ReaderLoops.{with_front}
use Rattle.at_logs.proofs.reading.counts_of.Given as goal

abbrev pub invariant-loop-log : goal.invariant-loop-log
invariant-loop-log l = record {
  sized : length l.counts ≡ l.logs;
  so_far : with_front (take l.log l.counts) (read_items (read_number w32) (l.logs - l.log) l.rest) ≡ read_items (read_number w32) l.logs l.bytes;
}
