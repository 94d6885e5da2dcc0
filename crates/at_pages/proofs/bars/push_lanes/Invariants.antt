use Rattle.std.proofs.Common.{◌≡◌, ◌++◌}
use Rattle.at_pages.proofs.Prelude.{lanes_text}
use Rattle.at_pages.proofs.bars.push_lanes.Given as goal

-- the lanes so far are there
abbrev pub invariant-loop-process : goal.invariant-loop-process
invariant-loop-process l = l.out.items ≡ l.initial.out.items ++ lanes_text l.names l.turns l.process
