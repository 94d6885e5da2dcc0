use Rattle.std.proofs.Common.{ℕ, ◌∙◌, ◌++◌, List, ap}
use Rattle.at_pages.proofs.Prelude.{turn_at, mark_text}
use Rattle.at_pages.proofs.TextLaws.{flat_map-range_more}
use Rattle.at_pages.proofs.marks.push_marks.Goals as goal

pub loop-i-preserved : goal.loop-i-preserved
loop-i-preserved c =
    let text_of : ℕ → List ℕ = λ m. mark_text c.args.book.now c.args.names.now m (turn_at c.args.turns.now m) in
    c.in_ok-push_mark.ensures
    ∙ (ap (λ (out : List ℕ). out ++ text_of c.loop-i.i) c.loop-i.invariant
    ∙ flat_map-range_more text_of c.args.out.now.items c.loop-i.i)
