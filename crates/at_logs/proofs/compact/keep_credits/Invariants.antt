use Rattle.std.proofs.Common.{◌≡◌, ℕ, ◌+◌, ◌<◌, take}
use Rattle.at_logs.proofs.Prelude.{backlog_credited, backlog_of, kept_of, named_among, room_of}
use Rattle.at_logs.proofs.compact.keep_credits.Given as goal

abbrev pub invariant-loop-i : goal.invariant-loop-i
invariant-loop-i l = record {
  kept : (p : ℕ) → p < l.book.logs
      → backlog_of (kept_of l.backlogs) p ≡ backlog_credited l.book p (backlog_of (kept_of l.fn.backlogs) p) l.payout.log l.number (take l.i l.payout.targets);
  room : (p : ℕ) → p < l.book.logs → room_of l.backlogs p + named_among l.book p (take l.i l.payout.targets) ≡ room_of l.fn.backlogs p;
}
