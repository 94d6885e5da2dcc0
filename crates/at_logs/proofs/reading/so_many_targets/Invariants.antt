use Rattle.std.proofs.Common.{◌≡◌, ◌-◌, length}
use Rattle.at_logs.proofs.Prelude.{read_items, read_target}
use Rattle.at_logs.proofs.ReaderLoops.{with_front}
use Rattle.at_logs.proofs.reading.so_many_targets.Given as goal

abbrev pub invariant-loop : goal.invariant-loop
invariant-loop l = record {
  sized : length l.targets ≡ l.counter;
  so_far : with_front l.targets (read_items (read_target l.accounts) (l.count - l.counter) l.rest) ≡ read_items (read_target l.accounts) l.count l.bytes;
}
