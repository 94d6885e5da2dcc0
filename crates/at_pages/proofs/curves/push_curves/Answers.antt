use Rattle.std.proofs.Common.{ℕ, ◌∙◌, ◌++◌, List, ap}
use Rattle.at_pages.proofs.Prelude.{curves_from}
use Rattle.at_pages.proofs.TextLaws.{flat_map-range_more}
use Rattle.at_pages.proofs.curves.push_curves.Goals as goal

pub loop-process-preserved : goal.loop-process-preserved
loop-process-preserved c =
    let text_of : ℕ → List ℕ = curves_from c.args.turns.now in
    c.in_ok-push_curves_from.ensures
    ∙ (ap (λ (out : List ℕ). out ++ text_of c.loop-process.process) c.loop-process.invariant
    ∙ flat_map-range_more text_of c.args.out.now.items c.loop-process.process)
