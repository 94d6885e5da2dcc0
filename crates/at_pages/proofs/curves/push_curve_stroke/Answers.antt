use Rattle.std.proofs.Common.{◌≡◌, ◌+◌, ◌++◌, ℕ, List, append_assoc, codes, decimal}
use Rattle.at_pages.proofs.Prelude.{curve_path}
use Rattle.at_pages.proofs.curves.push_curve_stroke.Goals as goal

-- seven texts after another
append-seven : (out a b c d e f g : List ℕ) → ((((((out ++ a) ++ b) ++ c) ++ d) ++ e) ++ f) ++ g ≡ out ++ (a ++ b ++ c ++ d ++ e ++ f ++ g)
append-seven out a b c d e f g = simp append_assoc

pub returns : goal.returns
returns c =
    rw (c.in_ok-extend_from_slice-4.ensures.items, c.in_ok-push_size-2.ensures, c.in_ok-extend_from_slice-3.ensures.items, c.in_ok-push_size.ensures, c.in_ok-extend_from_slice-2.ensures.items, c.in_ok-push_path.ensures, c.in_ok-extend_from_slice.ensures.items)
    (append-seven c.args.out.now.items (codes "<path class='sees' d='") (curve_path c.args.published c.args.from c.args.turn c.args.process) (codes "'><title>turn ") (decimal (c.args.turn + 1)) (codes ": first load of what turn ") (decimal (c.args.published + 1)) (codes " published</title></path>\n"))
