use Rattle.std.proofs.Common.{◌≡◌, ◌++◌, map, take}
use Rattle.at_tables.proofs.Prelude.{account_of, contents_of, records_text, row_number, account_fields, owner_fields}
use Rattle.at_tables.proofs.needs_table.push_owners.Given as goal

abbrev pub invariant-loop-slot : goal.invariant-loop-slot
invariant-loop-slot l =
    l.out.items ≡ l.initial.out.items
    ++ records_text (map (owner_fields l.names (account_fields l.book l.names l.account l.asked) (row_number (contents_of l.rows) l.account)) (take l.slot (account_of l.book l.account).owners))
