use Rattle.std.proofs.Common.{◌≡◌, ◌+◌, ◌++◌, map}
use Rattle.at_tables.proofs.Prelude.{range_with_len, records_text, call_at, replies_at, replies_fields}
use Rattle.at_tables.proofs.orders_table.push_process.Given as goal

abbrev pub invariant-loop-i : goal.invariant-loop-i
invariant-loop-i l =
    l.out.items ≡ l.initial.out.items
    ++ records_text (map (λ i. replies_fields l.book l.names l.process (i + 1) (call_at l.calls i) (replies_at l.answers i)) (range_with_len 0 l.i))
