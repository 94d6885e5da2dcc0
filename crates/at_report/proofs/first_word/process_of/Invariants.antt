use Rattle.std.proofs.Common.{ℕ, ◌<◌}
use Rattle.at_report.proofs.Prelude.{process_name, IsFirstWord}
use Rattle.at_report.proofs.first_word.process_of.Given as goal

abbrev pub invariant-loop-process : goal.invariant-loop-process
invariant-loop-process l = (p : ℕ) → p < l.process → IsFirstWord (process_name l.names p) l.text → ⊥
