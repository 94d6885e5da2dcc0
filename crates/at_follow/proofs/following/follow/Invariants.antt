use Rattle.at_follow.proofs.Prelude.{IsFollowing, log_bytes}
use Rattle.at_follow.proofs.following.follow.Given as goal

abbrev pub invariant-loop-log : goal.invariant-loop-log
invariant-loop-log l = IsFollowing l.book l.hash (log_bytes l.logs) l.log 0 l.node l.faults.items
