use Rattle.std.proofs.Common.{◌≡◌, ℕ, ◌+◌, ◌<◌, List, length, get_or}
use Rattle.at_orders.proofs.Prelude.{HaveSameNumbers, IsTrail, Stage}
use Rattle.at_orders.proofs.trail.Trail.hold.Given as goal

abbrev pub invariant-loop-i : goal.invariant-loop-i
invariant-loop-i l = record {
  size : length l.held.items + l.self.begun ≡ l.i;
  held : (stages : List Stage) → IsTrail l.ground l.self stages → (k : ℕ) (s d : Stage) → k < length l.held.items
      → HaveSameNumbers (get_or l.held.items k s) (get_or stages (l.self.begun + k) d);
}
