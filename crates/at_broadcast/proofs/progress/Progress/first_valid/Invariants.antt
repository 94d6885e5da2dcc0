use Rattle.std.proofs.Common.{ℕ, ◌<◌}
use Rattle.at_broadcast.proofs.Prelude.{Message, IsValid}
use Rattle.at_broadcast.proofs.progress.Progress.first_valid.Given as goal

abbrev pub invariant-loop-p : goal.invariant-loop-p
invariant-loop-p l = (q : ℕ) → q < l.p → (m : Message) → ¬ IsValid l.self.book l.self.messages l.self.validated q m
