use Rattle.std.proofs.Common.{◌≡◌, ℕ, ◌+◌, ◌++◌, [], ◌∷◌, List, take, sym, ap, subst, ◌∙◌, arith}
use Rattle.at_orders.proofs.Prelude.{append_assoc, take_all, take_more, AreSpans, Stage}
use Rattle.at_orders.proofs.Spanning.{spans-push}
use Rattle.at_orders.proofs.heard.widen_all.Goals as goal

pub loop-stage-preserved : goal.loop-stage-preserved
loop-stage-preserved c =
    let g = c.args.ground.now in
    let i : ℕ = c.loop-stage.stage-index in
    let s : Stage = c.stage-item.result in
    record {
      size = c.widen.ensures.len ∙ c.loop-stage.invariant.size;
      spans = λ past before.
          let more : past ++ take (i + 1) c.args.stages.now ≡ (past ++ take i c.args.stages.now) ++ s ∷ [] =
          ap (λ (ys : List Stage). past ++ ys) (take_more c.args.stages.now i s c.loop-stage-test.true ∙ ap (λ (t : Stage). take i c.args.stages.now ++ t ∷ []) (sym c.stage-item.is))
          ∙ sym (append_assoc past (take i c.args.stages.now) (s ∷ [])) in
          subst (λ (xs : List Stage). AreSpans g xs c.widen.new.spans) (sym more)
          (spans-push g (past ++ take i c.args.stages.now) s c.loop-stage.spans c.widen.new.spans c.widen.ensures.len c.widen.ensures.widened (c.loop-stage.invariant.spans past before));
    }

pub returns-clause-widened : goal.returns-clause-widened
returns-clause-widened c past before =
    let whole : take c.loop-stage.stage-index c.args.stages.now ≡ c.args.stages.now = take_all c.loop-stage.stage-index c.args.stages.now (let over = c.loop-stage-test.false in omega arith) in
    subst (λ (xs : List Stage). AreSpans c.args.ground.now (past ++ xs) c.loop-stage.spans) whole (c.loop-stage.invariant.spans past before)
