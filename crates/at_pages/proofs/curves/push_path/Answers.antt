use Rattle.std.proofs.Common.{◌≡◌, ◌++◌, ℕ, List, append_assoc, codes, decimal}
use Rattle.at_pages.proofs.Prelude.{facing_edge, lane_place, middle_of, time_place}
use Rattle.at_pages.proofs.curves.push_path.Goals as goal

-- four points after another, each behind a letter
points : (out a x1 s y1 b x2 y2 x3 y3 x4 y4 : List ℕ)
    → (((((((out ++ a) ++ (x1 ++ s ++ y1)) ++ b) ++ (x2 ++ s ++ y2)) ++ s) ++ (x3 ++ s ++ y3)) ++ s) ++ (x4 ++ s ++ y4)
    ≡ out ++ (a ++ x1 ++ s ++ y1 ++ b ++ x2 ++ s ++ y2 ++ s ++ x3 ++ s ++ y3 ++ s ++ x4 ++ s ++ y4)
points out a x1 s y1 b x2 y2 x3 y3 x4 y4 = simp append_assoc

pub returns : goal.returns
returns c =
    let q : ℕ = c.args.from in
    let p : ℕ = c.args.process in
    rw (c.in_ok-push_point-4.ensures, c.time_place-4.ensures, c.facing_edge.ensures, c.in_ok-extend_from_slice-4.ensures.items, c.in_ok-push_point-3.ensures, c.time_place-3.ensures, c.in_ok-extend_from_slice-3.ensures.items, c.in_ok-push_point-2.ensures, c.time_place-2.ensures, c.middle_of-middle.ensures, c.in_ok-extend_from_slice-2.ensures.items, c.in_ok-push_point.ensures, c.time_place.ensures, c.lane_place.ensures, c.in_ok-extend_from_slice.ensures.items)
    (points c.args.out.now.items (codes "M") (decimal (time_place c.args.published)) (codes " ") (decimal (lane_place q)) (codes "C") (decimal (time_place c.args.published))
    (decimal (middle_of q p)) (decimal (time_place c.args.turn)) (decimal (middle_of q p)) (decimal (time_place c.args.turn)) (decimal (facing_edge p q)))
