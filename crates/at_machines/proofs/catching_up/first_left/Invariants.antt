use Rattle.std.proofs.Common.{ℕ, ◌<◌, ◌≤◌, slice_index}
use Rattle.at_machines.proofs.catching_up.first_left.Given as goal

abbrev pub invariant-loop-p : goal.invariant-loop-p
invariant-loop-p l = (q : ℕ) → l.from ≤ q → q < l.p → slice_index l.counts q ≤ slice_index l.totals.upto q
