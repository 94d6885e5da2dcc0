use Rattle.std.proofs.Common.{◌≡◌, ◌++◌, ◌-◌, ◌≤◌}
use Rattle.at_journal.proofs.Prelude.{records_of_process}
use Rattle.at_journal.proofs.order.push_records.Given as goal

abbrev pub invariant-loop-number : goal.invariant-loop-number
invariant-loop-number l =
    (l.order.items ≡ l.fn.order.items ++ records_of_process l.process l.from l.number) × (l.number - l.from ≤ l.to - l.from)
