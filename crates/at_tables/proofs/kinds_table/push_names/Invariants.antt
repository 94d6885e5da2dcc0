use Rattle.std.proofs.Common.{◌≡◌, ◌++◌, take}
use Rattle.at_tables.proofs.Prelude.{spaced, owner_words}
use Rattle.at_tables.proofs.kinds_table.push_names.Given as goal

abbrev pub invariant-loop-process : goal.invariant-loop-process
invariant-loop-process l = l.out.items ≡ l.initial.out.items ++ spaced (owner_words l.names (take l.process-index l.processes))
