use Rattle.std.proofs.Common.{ℕ, ◌<◌}
use Rattle.at_c.proofs.Prelude.{target_at}
use Rattle.at_c.proofs.calls.are_targets_on.Given as goal

-- those before are accounts
abbrev pub invariant-loop-i : goal.invariant-loop-i
invariant-loop-i l = (k : ℕ) → k < l.i → (target_at l.targets k).0 < l.accounts
