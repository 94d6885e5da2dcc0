use Rattle.std.proofs.Common.{◌≡◌, ◌-◌, length}
use Rattle.at_logs.proofs.Prelude.{read_items, read_message}
use Rattle.at_logs.proofs.ReaderLoops.{with_front}
use Rattle.at_logs.proofs.reading.so_many_messages.Given as goal

abbrev pub invariant-loop : goal.invariant-loop
invariant-loop l = record {
  long : length l.messages.items ≡ l.counter;
  so_far : with_front l.messages.items (read_items (read_message l.accounts) (l.count - l.counter) l.rest) ≡ read_items (read_message l.accounts) l.count l.bytes;
}
