use Rattle.std.proofs.Common.{ℕ, ◌<◌, ◌∙◌, ◌++◌, List, ap, length, arith}
use Rattle.at_pages.proofs.Prelude.{item_text}
use Rattle.at_pages.proofs.TextLaws.{flat_map-item_more}
use Rattle.at_pages.proofs.tables.push_items.Goals as goal

pub loop-line-preserved : goal.loop-line-preserved
loop-line-preserved c =
    let within : c.loop-line.line-index < length c.args.lines.now = omega arith in
    c.in_ok-push_item.ensures
    ∙ (ap (λ (out : List ℕ). out ++ item_text c.args.names.now c.line-item.result) c.loop-line.invariant
    ∙ flat_map-item_more (item_text c.args.names.now) c.args.out.now.items c.args.lines.now c.loop-line.line-index c.line-item.result within c.line-item.is)
