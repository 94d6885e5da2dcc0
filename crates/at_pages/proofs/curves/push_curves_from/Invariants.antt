use Rattle.std.proofs.Common.{◌≡◌, ◌++◌, flat_map, take}
use Rattle.at_pages.proofs.Prelude.{range_with_len, curve_to, AreLoads}
use Rattle.at_pages.proofs.curves.push_curves_from.Given as goal

-- the curves to the turns so far are there, and it is known what these have loaded
abbrev pub invariant-loop-i : goal.invariant-loop-i
invariant-loop-i l = record {
  out : l.out.items ≡ l.initial.out.items ++ flat_map (curve_to l.turns l.from) (range_with_len 0 l.i);
  loads : AreLoads l.from l.loads (take l.i l.turns);
}
