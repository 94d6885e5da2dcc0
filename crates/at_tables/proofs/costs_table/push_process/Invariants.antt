use Rattle.std.proofs.Common.{◌≡◌, ◌+◌, ◌++◌, map}
use Rattle.at_tables.proofs.Prelude.{range_with_len, receipt_at, records_text, cost_at, cost_fields}
use Rattle.at_tables.proofs.costs_table.push_process.Given as goal

abbrev pub invariant-loop-i : goal.invariant-loop-i
invariant-loop-i l =
    l.out.items ≡ l.initial.out.items
    ++ records_text (map (λ i. cost_fields l.book l.names l.process (i + 1) (receipt_at l.receipts i) (cost_at l.costs i)) (range_with_len 0 l.i))
