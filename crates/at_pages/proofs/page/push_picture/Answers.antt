use Rattle.std.proofs.Common.{◌≡◌, ◌++◌, ℕ, List, append_assoc, codes, length}
use Rattle.at_pages.proofs.Prelude.{contents_of, arrows_text, bars_text, lanes_text, curves_text, marks_text, size_text, all_spans, SHAPES}
use Rattle.at_pages.proofs.page.push_picture.Goals as goal

-- eight texts after another
append-eight : (out a b c d e f g h : List ℕ) → (((((((out ++ a) ++ b) ++ c) ++ d) ++ e) ++ f) ++ g) ++ h ≡ out ++ (a ++ b ++ c ++ d ++ e ++ f ++ g ++ h)
append-eight out a b c d e f g h = simp append_assoc

pub returns : goal.returns
returns c =
    let b = c.args.book.now in
    let names = c.args.names.now in
    let turns = c.args.turns.now in
    rw (c.in_ok-push_marks.ensures, c.in_ok-push_arrows.ensures, c.in_ok-push_curves.ensures, c.in_ok-push_bars.ensures, c.requires.spans, c.in_ok-push_lanes.ensures, c.processes-2.ensures, c.in_ok-extend_from_slice-2.ensures.items, c.in_ok-push_picture_size.ensures, c.processes.ensures, c.in_ok-extend_from_slice.ensures.items)
    (append-eight c.args.out.now.items (codes "<svg") (size_text (length turns) b.processes) SHAPES.now (lanes_text names (length turns) b.processes)
    (bars_text names (contents_of c.args.files.now) (length turns) (all_spans turns b.processes)) (curves_text b turns) (arrows_text b names turns) (marks_text b names turns))
