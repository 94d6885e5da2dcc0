use Rattle.std.proofs.Common.{◌≡◌, ◌++◌}
use Rattle.at_tables.proofs.Prelude.{contents_of, records_text, row_number, needs_records}
use Rattle.at_tables.proofs.needs_table.push_accounts.Given as goal

abbrev pub invariant-loop-account : goal.invariant-loop-account
invariant-loop-account l =
    l.out.items ≡ l.initial.out.items ++ records_text (needs_records l.book l.names (row_number (contents_of l.rows)) l.account)
