use Rattle.std.proofs.Common.{◌≡◌, ◌<◌, ℕ, None, Some, get_or, length}
use Rattle.at_orders.proofs.Prelude.{range_in, Range}
use Rattle.at_orders.proofs.heard.spans_of_all.Given as goal

abbrev pub invariant-loop-account : goal.invariant-loop-account
invariant-loop-account l = record {
  size : length l.all.items ≡ l.account;
  each : (a place : ℕ) (d : Range) → a < l.account → get_or l.ground.places a None ≡ Some place → range_in l.all.items a ≡ get_or l.spans place d;
}
