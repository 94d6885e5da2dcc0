use Rattle.std.proofs.Common.{◌≡◌, ◌<◌, ℕ, get_or, length}
use Rattle.at_orders.proofs.parts.Parts.new.Given as goal

abbrev pub invariant-loop-process : goal.invariant-loop-process
invariant-loop-process l = record { size : length l.of.items ≡ l.process; each : (q : ℕ) → q < l.process → get_or l.of.items q 0 ≡ q }
