use Rattle.std.proofs.Common.{ℕ, ◌∙◌, ◌++◌, List, ap}
use Rattle.at_pages.proofs.Prelude.{contents_of, bar_text, begins_next, span_in, Span}
use Rattle.at_pages.proofs.TextLaws.{flat_map-range_more}
use Rattle.at_pages.proofs.bars.push_bars.Goals as goal

pub loop-k-preserved : goal.loop-k-preserved
loop-k-preserved c =
    let spans : List Span = c.args.spans.now in
    let names = c.args.names.now in
    let files = contents_of c.args.files.now in
    let text_of : ℕ → List ℕ = λ k. bar_text names files (begins_next c.args.turns spans k) (span_in spans k) in
    c.in_ok-push_bar.ensures
    ∙ (ap (λ (after : ℕ). c.loop-k.out.items ++ bar_text names files after (span_in spans c.loop-k.k)) c.begins_next-after.ensures
    ∙ (ap (λ (out : List ℕ). out ++ text_of c.loop-k.k) c.loop-k.invariant
    ∙ flat_map-range_more text_of c.args.out.now.items c.loop-k.k))
