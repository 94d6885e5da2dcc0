use Rattle.std.proofs.Common.{◌≡◌, ◌++◌}
use Rattle.at_tables.proofs.Prelude.{contents_of, records_text, costs_records}
use Rattle.at_tables.proofs.costs_table.push_processes.Given as goal

abbrev pub invariant-loop-p : goal.invariant-loop-p
invariant-loop-p l =
    l.out.items ≡ l.initial.out.items ++ records_text (costs_records l.book l.names l.closing.receipts (contents_of l.costs) l.p)
