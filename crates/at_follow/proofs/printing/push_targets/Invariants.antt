use Rattle.std.proofs.Common.{◌≡◌, ◌++◌, take}
use Rattle.at_follow.proofs.Prelude.{spaced, targets_words}
use Rattle.at_follow.proofs.printing.push_targets.Given as goal

abbrev pub invariant-loop-i : goal.invariant-loop-i
invariant-loop-i l = l.out.items ≡ l.initial.out.items ++ spaced (targets_words l.names (take l.i l.targets))
