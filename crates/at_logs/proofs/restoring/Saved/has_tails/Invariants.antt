use Rattle.std.proofs.Common.{◌≡◌, ℕ, ◌+◌, ◌<◌, get_or, length}
use Rattle.at_logs.proofs.Prelude.{backlog_of, no_tail}
use Rattle.at_logs.proofs.restoring.Saved.has_tails.Given as goal

abbrev pub invariant-loop-p : goal.invariant-loop-p
invariant-loop-p l =
    (q : ℕ) → q < l.p → (get_or l.self.tails q (no_tail 0)).messages ≡ get_or l.self.core.told q 0 + length (backlog_of l.self.core.backlogs q).messages
