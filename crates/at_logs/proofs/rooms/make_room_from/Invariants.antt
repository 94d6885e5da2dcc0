use Rattle.std.proofs.Common.{◌≡◌, ℕ, ◌+◌, ◌<◌, ◌≤◌, drop, sum_by}
use Rattle.at_logs.proofs.Prelude.{Message, backlog_of, kept_of, named_among, room_of}
use Rattle.at_logs.proofs.rooms.make_room_from.Given as goal

abbrev pub invariant-loop-i : goal.invariant-loop-i
invariant-loop-i l = record {
  kept : kept_of l.backlogs ≡ kept_of l.fn.backlogs;
  any : (q : ℕ) → room_of l.fn.backlogs q ≤ room_of l.backlogs q;
  more : (q : ℕ) → q < l.book.logs
      → room_of l.fn.backlogs q + sum_by (λ (m : Message). named_among l.book q m.targets) (drop l.from (backlog_of (kept_of l.fn.backlogs) l.p).messages)
      ≤ room_of l.backlogs q + sum_by (λ (m : Message). named_among l.book q m.targets) (drop l.i (backlog_of (kept_of l.fn.backlogs) l.p).messages);
}
