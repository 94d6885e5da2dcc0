use Rattle.std.proofs.Common.{ℕ, ◌<◌}
use Rattle.at_snapshot.proofs.Prelude.{HasRisen}
use Rattle.at_snapshot.proofs.collects.risen.Given as goal

-- no process so far has risen
abbrev pub invariant-loop-p : goal.invariant-loop-p
invariant-loop-p l = (q : ℕ) → q < l.p → ¬ HasRisen l.process l.first l.now q
