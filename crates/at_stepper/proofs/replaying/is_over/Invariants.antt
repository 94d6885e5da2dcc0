use Rattle.std.proofs.Common.{◌≡◌, ℕ, ◌<◌, slice_index}
use Rattle.at_stepper.proofs.Prelude.{calls_left}
use Rattle.at_stepper.proofs.replaying.is_over.Given as goal

-- those so far are idle
abbrev pub invariant-loop-process : goal.invariant-loop-process
invariant-loop-process l = (q : ℕ) → q < l.process → slice_index (calls_left l.stepper) q ≡ 0
