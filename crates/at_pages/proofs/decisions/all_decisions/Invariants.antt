use Rattle.std.proofs.Common.{◌≡◌, map, take}
use Rattle.at_pages.proofs.Prelude.{range_with_len, decides_at, AreExchanged}
use Rattle.at_pages.proofs.decisions.all_decisions.Given as goal

-- of the turns so far it is known, and the cells are those that they have exchanged
abbrev pub invariant-loop-i : goal.invariant-loop-i
invariant-loop-i l = record {
  decided : l.decided.items ≡ map (decides_at l.turns) (range_with_len 0 l.i);
  cells : AreExchanged l.cells (take l.i l.turns);
}
