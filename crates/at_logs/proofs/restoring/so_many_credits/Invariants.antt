use Rattle.std.proofs.Common.{◌≡◌, ◌-◌}
use Rattle.at_logs.proofs.Prelude.{read_items, read_credit}
use Rattle.at_logs.proofs.ReaderLoops.{with_front}
use Rattle.at_logs.proofs.restoring.so_many_credits.Given as goal

abbrev pub invariant-loop : goal.invariant-loop
invariant-loop l = with_front l.credits.items (read_items (read_credit l.logs l.accounts) (l.count - l.counter) l.rest) ≡ read_items (read_credit l.logs l.accounts) l.count l.bytes
