use Rattle.std.proofs.Common.{◌≡◌, ◌<◌, List, [], length, get_or, ap, sym, subst, ◌∙◌, arith}
use Rattle.at_logs.proofs.Prelude.{AreTargetsOn, BacklogState, Message, TargetPair, backlog_of, kept_of, named_among}
use Rattle.at_logs.proofs.RoomLaws.{kept_at, room_step}
use Rattle.at_logs.proofs.rooms.make_room_from.Goals.{After-targets-targets}
use Rattle.at_logs.proofs.rooms.make_room_from.Goals as goal

no_message : Message
no_message = record { from = 0; targets = []; reference = []; deps = [] }

-- the log's messages
abbrev messages_of : After-targets-targets → List Message
messages_of c = (backlog_of (kept_of c.args.backlogs.now) c.args.p).messages

within : (c : After-targets-targets) → c.loop-i.i < length (messages_of c)
within c = omega (
  arith,
  c.loop-i-test.true,
  c.len-i-end.ensures,
  ap (λ (l : BacklogState). length l.messages)
      (kept_at c.args.backlogs.now c.args.p c.index-backlogs-p.result (omega (arith, c.requires.log_in, c.requires.sized))),
)

same : (c : After-targets-targets) → c.targets-targets.result ≡ (get_or (messages_of c) c.loop-i.i no_message).targets
same c =
    c.targets-targets.ensures no_message
    ∙ ap (λ (l : BacklogState). (get_or l.messages c.loop-i.i no_message).targets)
    (kept_at c.loop-i.backlogs c.args.p c.index-backlogs-p-in-loop-i.result (omega (arith, c.requires.log_in, c.requires.sized, c.loop-i.auto.backlogs))
    ∙ ap (λ (l : List BacklogState). backlog_of l c.args.p) c.loop-i.invariant.kept)

pub make_room_to-requires-clause-targets_in : goal.make_room_to-requires-clause-targets_in
make_room_to-requires-clause-targets_in c =
    let at = (goal.at.make_room_to-requires-clause-targets_in c).After-targets-targets in
    subst (AreTargetsOn (length c.args.book.now.accounts)) (sym (same at)) (c.requires.known c.loop-i.i no_message (within at)).targets

pub loop-i-preserved : goal.loop-i-preserved
loop-i-preserved c =
    let at = (goal.at.loop-i-preserved c).After-targets-targets in
    record {
      kept = c.in_ok-make_room_to.ensures.kept ∙ c.loop-i.invariant.kept;
      any = λ q. omega (arith, c.loop-i.invariant.any q, c.in_ok-make_room_to.ensures.more q);
      more = λ q known.
          room_step (λ (m : Message). named_among c.args.book.now q m.targets) (messages_of at) c.loop-i.i no_message _ _ _ (named_among c.args.book.now q c.targets-targets.result) (within at)
          (c.loop-i.invariant.more q known) (c.in_ok-make_room_to.ensures.ok q known) (ap (λ (t : List TargetPair). named_among c.args.book.now q t) (same at));
    }
