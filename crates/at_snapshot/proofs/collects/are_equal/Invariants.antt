use Rattle.std.proofs.Common.{◌≡◌, ℕ, ◌<◌, get_or}
use Rattle.at_snapshot.proofs.collects.are_equal.Given as goal

-- so many counts are equal
abbrev pub invariant-loop-p : goal.invariant-loop-p
invariant-loop-p l = (q : ℕ) → q < l.p → get_or l.counts q 0 ≡ get_or l.others q 0
