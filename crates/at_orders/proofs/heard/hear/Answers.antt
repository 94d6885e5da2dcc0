use Rattle.at_orders.proofs.Prelude.{common_steps, Call, AreHeard, IsSeen, Stage, append_assoc, take_all, take_more, slice_get-get_or, Reply, no_replies, replies_with, Replies}
use Rattle.std.proofs.Common.{◌≡◌, ℕ, ◌+◌, ◌≤◌, ◌++◌, set, take, Some, [], ◌∷◌, List, length, get_or, sym, ap, subst, ◌∙◌, arith}
use Rattle.std.specs.Prelude.{slice_get}
use Rattle.at_orders.proofs.Seen.{call-placed, next-call}
use Rattle.at_orders.proofs.Walking.{heard-push, heard-skip}
use Rattle.at_orders.proofs.heard.hear.Goals as goal
use Rattle.at_orders.proofs.heard.hear.Goals.{then-i-file, else-i-file}

pub reply-requires-clause-next : goal.reply-requires-clause-next
reply-requires-clause-next c =
    next-call c.args.ground.now c.stage-item.result c.args.process c.file-file.result.now c.made-made.result c.index-file-i.result c.file-file.ensures.calls c.made-made.ensures
    c.if-i-file.true c.index-file-i.is

pub reply-requires-clause-placed : goal.reply-requires-clause-placed
reply-requires-clause-placed c =
    call-placed c.args.ground.now c.stage-item.result c.args.process c.index-file-i.result c.file-file.ensures.known c.requires.process_in
    (next-call c.args.ground.now c.stage-item.result c.args.process c.file-file.result.now c.made-made.result c.index-file-i.result c.file-file.ensures.calls c.made-made.ensures
    c.if-i-file.true c.index-file-i.is)

pub loop-stage-preserved : goal.loop-stage-preserved
loop-stage-preserved c past before =
    let g = c.args.ground.now in
    let file : List Call = get_or g.files c.args.process [] in
    let s : Stage = c.stage-item.result in
    let p : ℕ = c.args.process in
    let k : ℕ = c.made-made.result in
    let xs : List Stage = past ++ take c.loop-stage.stage-index c.args.stages.now in
    let replies : List Replies = c.loop-stage.replies in
    let heard = c.loop-stage.invariant past before in
    let seen : IsSeen g s = subst (IsSeen g) (sym c.stage-item.is) (c.requires.stages c.loop-stage.stage-index s c.loop-stage-test.true) in
    let more : past ++ take (c.loop-stage.stage-index + 1) c.args.stages.now ≡ xs ++ s ∷ [] =
    ap (λ (ys : List Stage). past ++ ys) (take_more c.args.stages.now c.loop-stage.stage-index s c.loop-stage-test.true
    ∙ ap (λ (t : Stage). take c.loop-stage.stage-index c.args.stages.now ++ t ∷ []) (sym c.stage-item.is))
    ∙ sym (append_assoc past (take c.loop-stage.stage-index c.args.stages.now) (s ∷ [])) in
    rw more (elim c.if-i-file.branch [
      | then-i-file w ↦
          let call : Call = w.index-file-i.result in
          let x : Reply = w.reply.result in
          let here : slice_get c.file-file.result.now k ≡ Some call = slice_get-get_or c.file-file.result.now k call w.if-i-file.true ∙ ap Some (sym w.index-file-i.is) in
          let next : slice_get file k ≡ Some call = subst (λ (calls : List Call). slice_get calls k ≡ Some call) c.file-file.ensures.calls here in
          let pushed = heard-push g file xs s p k replies call no_replies x seen (sym c.made-made.ensures) next w.reply.ensures heard in
          let value : replies_with (get_or replies k no_replies) x ≡ w.with.result = sym w.with.ensures in
          subst (AreHeard g file (xs ++ s ∷ []) p) (sym w.replies-is) (subst (λ (q : Replies). AreHeard g file (xs ++ s ∷ []) p (set replies k q)) value pushed)
      | else-i-file w ↦
          let past : length file ≤ get_or s.made.items p 0 = let size = ap (length {A = Call}) c.file-file.ensures.calls in let is = c.made-made.ensures in let far = w.if-i-file.false in omega arith in
          subst (AreHeard g file (xs ++ s ∷ []) p) (sym w.replies-is) (heard-skip g file xs s p replies past heard)
    ])

pub returns-clause-heard : goal.returns-clause-heard
returns-clause-heard c past before =
    let whole : take c.loop-stage.stage-index c.args.stages.now ≡ c.args.stages.now = take_all c.loop-stage.stage-index c.args.stages.now (omega arith) in
    subst (λ (xs : List Stage). AreHeard c.args.ground.now (get_or c.args.ground.now.files c.args.process []) (past ++ xs) c.args.process c.loop-stage.replies) whole (c.loop-stage.invariant past before)

pub reply-requires-clause-standing : goal.reply-requires-clause-standing
reply-requires-clause-standing c = grind (arith, common_steps)

pub bounds-replies-i : goal.bounds-replies-i
bounds-replies-i c = grind (arith, common_steps)

pub reply-requires-clause-call_in : goal.reply-requires-clause-call_in
reply-requires-clause-call_in c = grind (arith, common_steps)

pub loop-stage-init : goal.loop-stage-init
loop-stage-init c = grind (arith, common_steps)

pub made-made-requires : goal.made-made-requires
made-made-requires c = grind (arith, common_steps)

pub bounds-file-i : goal.bounds-file-i
bounds-file-i c = grind (arith, common_steps)

pub offset_bounds-replies-i-then-i-file : goal.offset_bounds-replies-i-then-i-file
offset_bounds-replies-i-then-i-file c = grind (arith, common_steps)

pub reply-requires-clause-process_in : goal.reply-requires-clause-process_in
reply-requires-clause-process_in c = grind (arith, common_steps)

pub offset_bounds-file-i : goal.offset_bounds-file-i
offset_bounds-file-i c = grind (arith, common_steps)

pub offset_bounds-replies-i : goal.offset_bounds-replies-i
offset_bounds-replies-i c = grind (arith, common_steps)

pub overflow_cast-i : goal.overflow_cast-i
overflow_cast-i c = grind (arith, common_steps)

pub offset_bounds-stages-stage-index : goal.offset_bounds-stages-stage-index
offset_bounds-stages-stage-index c = grind (arith, common_steps)

pub returns-clause-len : goal.returns-clause-len
returns-clause-len c = grind (arith, common_steps)
