use Rattle.std.proofs.Common.{◌≡◌, ℕ, ◌<◌, ◌≤◌, [], sum_by}
use Rattle.at_logs.proofs.Prelude.{Message, kept_of, named_among, range_with_len, room_of, state_of, waiting_of}
use Rattle.at_logs.proofs.rooms.make_room_waiting.Given as goal

abbrev pub invariant-loop-p : goal.invariant-loop-p
invariant-loop-p l = record {
  kept : kept_of l.backlogs ≡ kept_of l.fn.backlogs;
  made : (q : ℕ) → q < l.book.logs
      → sum_by (λ i. sum_by (λ (m : Message). named_among l.book q m.targets) (waiting_of (state_of l.book l.validated l.told [] [] l.fn.backlogs) i)) (range_with_len 0 l.p)
      ≤ room_of l.backlogs q;
}
