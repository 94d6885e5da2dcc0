use Rattle.std.proofs.Common.{◌≡◌, ℕ, ◌+◌, ◌<◌, ◌≤◌, sum_by, take}
use Rattle.at_logs.proofs.Prelude.{Message, kept_of, named_among, room_of}
use Rattle.at_logs.proofs.compact.make_room_for.Given as goal

abbrev pub invariant-loop-message : goal.invariant-loop-message
invariant-loop-message l = record {
  kept : kept_of l.backlogs ≡ kept_of l.fn.backlogs;
  more : (p : ℕ) → p < l.book.logs
      → room_of l.fn.backlogs p + sum_by (λ (m : Message). named_among l.book p m.targets) (take l.message-index l.messages) ≤ room_of l.backlogs p;
  any : (p : ℕ) → room_of l.fn.backlogs p ≤ room_of l.backlogs p;
}
