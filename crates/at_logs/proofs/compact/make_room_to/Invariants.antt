use Rattle.std.proofs.Common.{◌≡◌, ℕ, ◌+◌, ◌<◌, ◌≤◌, take}
use Rattle.at_logs.proofs.Prelude.{kept_of, named_among, room_of}
use Rattle.at_logs.proofs.compact.make_room_to.Given as goal

abbrev pub invariant-loop-i : goal.invariant-loop-i
invariant-loop-i l = record {
  kept : kept_of l.backlogs ≡ kept_of l.fn.backlogs;
  more : (p : ℕ) → p < l.book.logs → room_of l.fn.backlogs p + named_among l.book p (take l.i l.targets) ≤ room_of l.backlogs p;
  any : (p : ℕ) → room_of l.fn.backlogs p ≤ room_of l.backlogs p;
}
