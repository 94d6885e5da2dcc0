use Rattle.std.proofs.Common.{◌≡◌, ◌++◌, flat_map}
use Rattle.at_tables.proofs.Prelude.{range_with_len, declaration_text}
use Rattle.at_tables.proofs.ledger_table.push_accounts.Given as goal

abbrev pub invariant-loop-account : goal.invariant-loop-account
invariant-loop-account l = l.out.items ≡ l.initial.out.items ++ flat_map (declaration_text l.names) (range_with_len 0 l.account)
