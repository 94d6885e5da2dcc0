use Rattle.std.proofs.Common.{◌≡◌}
use Rattle.at_follow.proofs.Prelude.{IsFollowing, log_bytes}
use Rattle.at_follow.proofs.following.follow_log.Given as goal

abbrev pub invariant-loop-place : goal.invariant-loop-place
invariant-loop-place l = record {
  book : l.node.book ≡ l.initial.node.book;
  hash : l.node.hash ≡ l.initial.node.hash;
  so : IsFollowing l.node.book l.node.hash (log_bytes l.logs) l.log l.place l.node l.faults.items;
}
