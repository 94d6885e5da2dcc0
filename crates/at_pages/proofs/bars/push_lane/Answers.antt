use Rattle.std.proofs.Common.{◌≡◌, ℕ, List, ◌++◌, append_assoc, codes, decimal}
use Rattle.at_pages.proofs.Prelude.{process_name, lane_place, lane_width, name_line, place_text}
use Rattle.at_pages.proofs.bars.push_lane.Goals as goal

-- nine texts after another
append-nine : (out a b c d e f g h i : List ℕ)
    → ((((((((out ++ a) ++ b) ++ c) ++ d) ++ e) ++ f) ++ g) ++ h) ++ i ≡ out ++ (a ++ b ++ c ++ d ++ e ++ f ++ g ++ h ++ i)
append-nine out a b c d e f g h i = simp append_assoc

pub returns : goal.returns
returns c =
    let p : ℕ = c.args.process in
    rw (c.in_ok-extend_from_slice-6.ensures.items, c.in_ok-extend_from_slice-5.ensures.items, c.process.ensures.name, c.in_ok-extend_from_slice-4.ensures.items, c.in_ok-push_place-2.ensures, c.name_line.ensures, c.in_ok-extend_from_slice-3.ensures.items, c.in_ok-push_size.ensures, c.lane_width.ensures, c.in_ok-extend_from_slice-2.ensures.items, c.in_ok-push_place.ensures, c.lane_place.ensures, c.in_ok-extend_from_slice.ensures.items)
    (append-nine c.args.out.now.items (codes "<rect class='lane'") (place_text 124 (lane_place p)) (codes " width='") (decimal (lane_width c.args.turns)) (codes "' height='1'/><text class='name'") (place_text 8 (name_line p)) (codes ">") (process_name c.args.names.now p) (codes "</text>\n"))
