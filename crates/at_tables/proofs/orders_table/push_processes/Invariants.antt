use Rattle.std.proofs.Common.{◌≡◌, ◌++◌}
use Rattle.at_tables.proofs.Prelude.{contents_of, records_text, replies_records}
use Rattle.at_tables.proofs.orders_table.push_processes.Given as goal

abbrev pub invariant-loop-p : goal.invariant-loop-p
invariant-loop-p l =
    l.out.items ≡ l.initial.out.items ++ records_text (replies_records l.book l.names (contents_of l.files) (contents_of l.answers) l.p)
