use Rattle.std.proofs.Common.{◌≡◌, ◌++◌, take}
use Rattle.at_tables.proofs.Prelude.{postings_text, target_credits}
use Rattle.at_tables.proofs.entries.push_credits.Given as goal

abbrev pub invariant-loop-i : goal.invariant-loop-i
invariant-loop-i l = l.out.items ≡ l.initial.out.items ++ postings_text l.names (target_credits (take l.i l.targets))
