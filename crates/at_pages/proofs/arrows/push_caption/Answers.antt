use Rattle.std.proofs.Common.{◌≡◌, ◌++◌, ℕ, List, append_assoc, codes}
use Rattle.at_pages.proofs.Prelude.{arrow_words, caption_line, caption_place, place_text}
use Rattle.at_pages.proofs.arrows.push_caption.Goals as goal

-- five texts after another
append-five : (out a b c d e : List ℕ) → ((((out ++ a) ++ b) ++ c) ++ d) ++ e ≡ out ++ (a ++ b ++ c ++ d ++ e)
append-five out a b c d e = simp append_assoc

pub returns : goal.returns
returns c =
    rw (c.in_ok-extend_from_slice-3.ensures.items, c.in_ok-push_arrow_words.ensures, c.in_ok-extend_from_slice-2.ensures.items, c.in_ok-push_place.ensures, c.caption_place.ensures, c.caption_line.ensures, c.in_ok-extend_from_slice.ensures.items)
    (append-five c.args.out.now.items (codes "<text class='caption'") (place_text (caption_place c.args.turn) (caption_line c.args.process c.args.owner)) (codes ">") (arrow_words c.args.names.now c.args.owner) (codes "</text>\n"))
