use Rattle.std.proofs.Common.{◌≡◌, ◌++◌, flat_map}
use Rattle.at_pages.proofs.Prelude.{range_with_len, curves_from}
use Rattle.at_pages.proofs.curves.push_curves.Given as goal

-- the curves from the lanes so far are there
abbrev pub invariant-loop-process : goal.invariant-loop-process
invariant-loop-process l = l.out.items ≡ l.initial.out.items ++ flat_map (curves_from l.turns) (range_with_len 0 l.process)
