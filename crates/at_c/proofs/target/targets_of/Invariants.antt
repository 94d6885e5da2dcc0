use Rattle.std.proofs.Common.{◌≡◌, ◌++◌, take}
use Rattle.at_c.proofs.Prelude.{near_pairs_of}
use Rattle.at_c.proofs.target.targets_of.Given as goal

-- the first, and those of the others that were passed
abbrev pub invariant-loop-target : goal.invariant-loop-target
invariant-loop-target l = l.all ≡ l.initial.all ++ near_pairs_of (take l.target-index l.others)
