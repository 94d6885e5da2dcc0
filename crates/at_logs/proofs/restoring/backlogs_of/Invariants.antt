use Rattle.std.proofs.Common.{◌≡◌, ◌-◌}
use Rattle.at_logs.proofs.Prelude.{kept_of, read_backlog, read_items}
use Rattle.at_logs.proofs.ReaderLoops.{with_front}
use Rattle.at_logs.proofs.restoring.backlogs_of.Given as goal

abbrev pub invariant-loop : goal.invariant-loop
invariant-loop l = with_front (kept_of l.backlogs.items) (read_items (read_backlog l.logs l.accounts) (l.logs - l.counter) l.rest) ≡ read_items (read_backlog l.logs l.accounts) l.logs l.bytes
