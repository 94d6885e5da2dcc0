use Rattle.std.proofs.Common.{◌≡◌, ℕ, ◌+◌, ◌<◌, List, length, drop, set, ap, sym, subst, ◌∙◌, arith, length-set}
use Rattle.at_broadcast.proofs.Prelude.{get_or_read, All-get_or, TargetPair, target_at, HasRoomFor, SenderState, credits_to, message_counted, no_credits, target_counted}
use Rattle.at_broadcast.proofs.SenderLaws.{HasRoomFor-drop_more, HasRoomFor-here, IsNextRoom, counted-same, message_counted-drop_all, message_counted-drop_more}
use Rattle.at_broadcast.proofs.sender.Sender.count.Goals.{After-index_mut}
use Rattle.at_broadcast.proofs.sender.Sender.count.Goals as goal

-- the sender so far
abbrev so_far : After-index_mut → SenderState
so_far c = record { messages = c.loop-i.self-inside.messages; credits = c.loop-i.self-inside.credits.items }

within : (c : After-index_mut) → c.loop-i.i < length c.args.targets.now
within c = omega (arith, c.loop-i-test.true, c.loop-i.auto.i-end, c.len-i-end.ensures.count)

known : (c : After-index_mut) → (target_at c.args.targets.now c.loop-i.i).0 < length (so_far c).credits
known c =
    omega (
      arith,
      c.loop-i.invariant.sized,
      All-get_or (λ (t : TargetPair). t.0 < length c.args.self.now.credits) c.args.targets.now c.loop-i.i (0, 0) (within c) c.requires.targets,
    )

-- the credits that were read
read : (c : After-index_mut) → c.index_mut.result.now ≡ credits_to (so_far c) c.to.result
read c = get_or_read (so_far c).credits c.to.result c.index_mut.result.now (omega (arith, known c, c.to.ensures)) c.index_mut.ensures.value no_credits

next : (c : After-index_mut) → IsNextRoom c.args.number c.index_mut.result.now
next c =
    subst (IsNextRoom c.args.number) (sym (read c ∙ ap (λ k. credits_to (so_far c) k) c.to.ensures))
    (HasRoomFor-here c.args.targets.now c.loop-i.i c.args.number (so_far c) (within c) (known c) c.loop-i.invariant.room)

pub push-requires-clause-room : goal.push-requires-clause-room
push-requires-clause-room c = (next (goal.at.push-requires-clause-room c).After-index_mut).room

pub push-requires-clause-later : goal.push-requires-clause-later
push-requires-clause-later c = (next (goal.at.push-requires-clause-later c).After-index_mut).later

pub push-requires-clause-few : goal.push-requires-clause-few
push-requires-clause-few c = (next (goal.at.push-requires-clause-few c).After-index_mut).few

pub loop-i-preserved : goal.loop-i-preserved
loop-i-preserved c =
    let at = (goal.at.loop-i-preserved c).After-index_mut in
    let s : SenderState = so_far at in
    let number : ℕ = c.args.number in
    let targets : List TargetPair = c.args.targets.now in
    let t : TargetPair = target_at targets c.loop-i.i in
    let new : record s { credits = set s.credits c.to.result c.push.new.self } ≡ target_counted s number t =
    counted-same s number c.to.result c.amount.result t c.index_mut.result.now c.push.new.self c.to.ensures c.amount.ensures (read at) c.push.ensures in
    record {
      same = ap (λ (s : SenderState). message_counted s number (drop (c.loop-i.i + 1) targets)) new
          ∙ (sym (message_counted-drop_more s number targets c.loop-i.i (within at)) ∙ c.loop-i.invariant.same);
      room = subst (λ (s : SenderState). HasRoomFor (drop (c.loop-i.i + 1) targets) number s) (sym new)
          (HasRoomFor-drop_more targets c.loop-i.i number s (within at) (known at) c.loop-i.invariant.room);
      sized = length-set s.credits c.to.result c.push.new.self ∙ c.loop-i.invariant.sized;
    }

pub returns : goal.returns
returns c =
    let s : SenderState = record { messages = c.loop-i.self-inside.messages; credits = c.loop-i.self-inside.credits.items } in
    sym (message_counted-drop_all s c.args.number c.args.targets.now c.loop-i.i (omega (arith, c.loop-i-test.false, c.loop-i.auto.i-end, c.len-i-end.ensures.count)))
    ∙ c.loop-i.invariant.same
