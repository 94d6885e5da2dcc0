use Rattle.std.proofs.Common.{◌≡◌, ℕ, ◌-◌, List, [], get_or, drop, sum_by, ap, ◌∙◌, arith}
use Rattle.at_logs.proofs.Prelude.{BacklogState, Message, backlog_of, kept_of, named_among, state_of, waiting_of}
use Rattle.at_logs.proofs.RoomLaws.{waiting_step}
use Rattle.at_logs.proofs.rooms.make_room_waiting.Goals as goal

pub loop-p-preserved : goal.loop-p-preserved
loop-p-preserved c = record {
  kept = c.in_ok-make_room_from.ensures.kept ∙ c.loop-p.invariant.kept;
  made = λ q known.
      let w = λ (m : Message). named_among c.args.book.now q m.targets in
      let p : ℕ = c.loop-p.p in
      let from : ℕ = c.get.result - c.get-in-loop-p.result in
      let from_is : from ≡ get_or c.args.validated.now p 0 - get_or c.args.told.now p 0 = omega (arith, c.get.ensures, c.get-in-loop-p.ensures) in
      waiting_step (λ i. sum_by w (waiting_of (state_of c.args.book.now c.args.validated.now c.args.told.now [] [] c.args.backlogs.now) i)) p _ _
      (sum_by w (drop from (backlog_of (kept_of c.loop-p.backlogs) p).messages)) (c.loop-p.invariant.made q known) (c.in_ok-make_room_from.ensures.ok q known)
      (ap (λ n. sum_by w (drop n (backlog_of (kept_of c.loop-p.backlogs) p).messages)) from_is
      ∙ ap (λ (l : List BacklogState). sum_by w (drop (get_or c.args.validated.now p 0 - get_or c.args.told.now p 0) (backlog_of l p).messages)) c.loop-p.invariant.kept);
}
