use Rattle.std.proofs.Common.{◌≡◌, ◌++◌, take}
use Rattle.at_tables.proofs.Prelude.{account_of, spaced, owner_words}
use Rattle.at_tables.proofs.kinds_table.push_owners.Given as goal

abbrev pub invariant-loop-slot : goal.invariant-loop-slot
invariant-loop-slot l = l.out.items ≡ l.initial.out.items ++ spaced (owner_words l.names (take l.slot (account_of l.book l.account).owners))
