use Rattle.std.proofs.Common.{◌≡◌, ◌++◌, ℕ, List, append_assoc, codes, decimal}
use Rattle.at_pages.proofs.curves.push_point.Goals as goal

-- three texts after another
append-three : (out a b c : List ℕ) → ((out ++ a) ++ b) ++ c ≡ out ++ (a ++ b ++ c)
append-three out a b c = simp append_assoc

pub returns : goal.returns
returns c =
    rw (c.in_ok-push_size-2.ensures, c.in_ok-extend_from_slice.ensures.items, c.in_ok-push_size.ensures)
    (append-three c.args.out.now.items (decimal c.args.x) (codes " ") (decimal c.args.y))
