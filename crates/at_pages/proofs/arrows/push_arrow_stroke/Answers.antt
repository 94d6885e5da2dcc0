use Rattle.std.proofs.Common.{◌≡◌, ◌+◌, ◌++◌, ℕ, List, append_assoc, codes, decimal}
use Rattle.at_pages.proofs.Prelude.{arrow_path, arrow_words}
use Rattle.at_pages.proofs.arrows.push_arrow_stroke.Goals as goal

-- seven texts after another
append-seven : (out a b c d e f g : List ℕ) → ((((((out ++ a) ++ b) ++ c) ++ d) ++ e) ++ f) ++ g ≡ out ++ (a ++ b ++ c ++ d ++ e ++ f ++ g)
append-seven out a b c d e f g = simp append_assoc

pub returns : goal.returns
returns c =
    rw (c.in_ok-extend_from_slice-4.ensures.items, c.in_ok-push_arrow_words.ensures, c.in_ok-extend_from_slice-3.ensures.items, c.in_ok-push_size.ensures, c.in_ok-extend_from_slice-2.ensures.items, c.in_ok-push_path.ensures, c.in_ok-extend_from_slice.ensures.items)
    (append-seven c.args.out.now.items (codes "<path class='helps' d='") (arrow_path c.args.turn c.args.process c.args.owner) (codes "'><title>turn ") (decimal (c.args.turn + 1)) (codes ": ") (arrow_words c.args.names.now c.args.owner) (codes "</title></path>\n"))
