use Rattle.std.proofs.Common.{◌≡◌, ◌≤◌, ◌*◌, ◌^◌}
use Rattle.at_orders.proofs.Prelude.{falls_of, part_ranges, rises_of}
use Rattle.at_orders.proofs.whole.falls_and_rises.Given as goal

abbrev pub invariant-loop-other : goal.invariant-loop-other
invariant-loop-other l = record {
  falls : l.falls ≡ falls_of l.book l.account (part_ranges l.done l.account) l.part l.other;
  rises : l.rises ≡ rises_of l.book l.account (part_ranges l.done l.account) l.part l.other;
  falls_fit : l.falls ≤ l.other * 2 ^ 64;
  rises_fit : l.rises ≤ l.other * 2 ^ 64;
}
