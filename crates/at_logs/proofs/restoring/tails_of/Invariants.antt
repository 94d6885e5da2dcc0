use Rattle.std.proofs.Common.{◌≡◌, ◌-◌}
use Rattle.at_logs.proofs.Prelude.{read_items, read_tail}
use Rattle.at_logs.proofs.ReaderLoops.{with_front}
use Rattle.at_logs.proofs.restoring.tails_of.Given as goal

abbrev pub invariant-loop : goal.invariant-loop
invariant-loop l = with_front l.tails.items (read_items (read_tail l.logs) (l.logs - l.counter) l.rest) ≡ read_items (read_tail l.logs) l.logs l.bytes
