use Rattle.std.proofs.Common.{ℕ, ◌<◌}
use Rattle.at_logs.proofs.Prelude.{IsStuck, SettlesFrom}
use Rattle.at_logs.proofs.compact.Compact.first_valid.Given as goal

abbrev pub invariant-loop-p : goal.invariant-loop-p
invariant-loop-p l = record {
  settles : SettlesFrom l.initial.self l.self;
  stuck : (q : ℕ) → q < l.p → IsStuck l.initial.self q;
}
