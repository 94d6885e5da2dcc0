use Rattle.std.proofs.Common.{◌≡◌, ◌-◌}
use Rattle.std.specs.Int.{w64}
use Rattle.at_logs.proofs.Prelude.{read_items, read_number}
use Rattle.at_logs.proofs.ReaderLoops.{with_front}
use Rattle.at_logs.proofs.restoring.amounts_of.Given as goal

abbrev pub invariant-loop : goal.invariant-loop
invariant-loop l = with_front l.amounts.items (read_items (read_number w64) (l.count - l.counter) l.rest) ≡ read_items (read_number w64) l.count l.bytes
