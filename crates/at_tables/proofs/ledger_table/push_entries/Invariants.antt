use Rattle.std.proofs.Common.{◌≡◌, ◌++◌, flat_map, map, take}
use Rattle.at_tables.proofs.Prelude.{entry_of, entry_text}
use Rattle.at_tables.proofs.ledger_table.push_entries.Given as goal

abbrev pub invariant-loop-line : goal.invariant-loop-line
invariant-loop-line l = l.out.items ≡ l.initial.out.items ++ flat_map (entry_text l.names) (map entry_of (take l.line-index l.lines))
