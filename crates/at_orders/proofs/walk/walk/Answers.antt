use Rattle.std.proofs.Common.{◌≡◌, ◌<◌, ℕ, List, length, get_or, sym, subst}
use Rattle.at_orders.proofs.Prelude.{contents_of, HoldsAt, IsSpan, Range}
use Rattle.at_orders.proofs.Merging.{walk-ordered}
use Rattle.at_orders.proofs.walk.walk.Goals as goal

pub returns-clause-ordered : goal.returns-clause-ordered
returns-clause-ordered c =
    let g = c.in_ok-ground.ground in
    let spans : List Range = c.as_slice.result.now in
    let items : spans ≡ c.in_ok-replies.field-0.spans.items = c.as_slice.ensures.value in
    walk-ordered c.args.book.now (contents_of c.args.files.now) c.args.parts.now c.args.part g (record { replies = c.in_ok-replies.field-0.replies; spans = c.in_ok-all.all }) spans
    c.book-known.ensures.known c.in_ok-ground.ensures.book c.in_ok-ground.ensures.files c.in_ok-ground.ensures.named c.in_ok-replies.ensures.answers
    (subst (λ (xs : List Range). (place : ℕ) (d : Range) → place < length g.named → IsSpan (HoldsAt g.book g.files (get_or g.named place 0)) (get_or xs place d)) (sym items) c.in_ok-replies.ensures.spans)
    c.in_ok-all.ensures.accounts c.in_ok-all.ensures.spans
