use Rattle.std.proofs.Common.{◌≡◌, ℕ, List, ◌++◌, append_assoc, codes, decimal}
use Rattle.at_pages.proofs.Prelude.{bar_left, bar_top, bar_width, place_text, Span}
use Rattle.at_pages.proofs.bars.push_rect_begin.Goals as goal

-- five texts after another
append-five : (out a b c d e : List ℕ) → ((((out ++ a) ++ b) ++ c) ++ d) ++ e ≡ out ++ (a ++ b ++ c ++ d ++ e)
append-five out a b c d e = simp append_assoc

pub returns : goal.returns
returns c =
    let s : Span = c.args.span.now in
    rw (c.in_ok-extend_from_slice-3.ensures.items, c.in_ok-push_size.ensures, c.bar_width.ensures, c.in_ok-extend_from_slice-2.ensures.items, c.in_ok-push_place.ensures, c.bar_left.ensures, c.bar_top.ensures, c.in_ok-extend_from_slice.ensures.items)
    (append-five c.args.out.now.items (codes "<rect class='bar'") (place_text (bar_left s.first) (bar_top s.process)) (codes " width='") (decimal (bar_width s.first s.last)) (codes "' height='26'><title>"))
