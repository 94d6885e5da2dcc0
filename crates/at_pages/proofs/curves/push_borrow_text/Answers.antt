use Rattle.std.proofs.Common.{◌≡◌, ◌++◌, ℕ, List, append_assoc, codes}
use Rattle.at_pages.proofs.Prelude.{borrow_line, caption_place, place_text}
use Rattle.at_pages.proofs.curves.push_borrow_text.Goals as goal

-- three texts after another
append-three : (out a b c : List ℕ) → ((out ++ a) ++ b) ++ c ≡ out ++ (a ++ b ++ c)
append-three out a b c = simp append_assoc

pub returns : goal.returns
returns c =
    rw (c.in_ok-extend_from_slice-2.ensures.items, c.in_ok-push_place.ensures, c.caption_place.ensures, c.borrow_line.ensures, c.in_ok-extend_from_slice.ensures.items)
    (append-three c.args.out.now.items (codes "<text class='caption'") (place_text (caption_place c.args.turn) (borrow_line c.args.process c.args.from)) (codes ">borrows</text>\n"))
