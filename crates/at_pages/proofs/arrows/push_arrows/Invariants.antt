use Rattle.std.proofs.Common.{◌≡◌, ◌++◌, flat_map}
use Rattle.at_pages.proofs.Prelude.{range_with_len, arrows_from}
use Rattle.at_pages.proofs.arrows.push_arrows.Given as goal

-- the arrows of the processes so far are there
abbrev pub invariant-loop-process : goal.invariant-loop-process
invariant-loop-process l = l.out.items ≡ l.initial.out.items ++ flat_map (arrows_from l.book l.names l.turns) (range_with_len 0 l.process)
