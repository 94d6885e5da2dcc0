use Rattle.std.proofs.Common.{ℕ, ◌<◌}
use Rattle.at_logs.proofs.Prelude.{IsBacklog, backlog_of}
use Rattle.at_logs.proofs.restoring.SavedCore.has_backlogs.Given as goal

abbrev pub invariant-loop-p : goal.invariant-loop-p
invariant-loop-p l = (q : ℕ) → q < l.p → IsBacklog l.self q (backlog_of l.self.backlogs q)
