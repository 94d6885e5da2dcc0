-- Texts that are written piece after piece.
use Rattle.std.proofs.Common.{◌≡◌, ℕ, ◌+◌, List, Vec, [], ◌∷◌, ◌++◌, length, take, drop, get_or, ◌<◌, ap, ◌∙◌, sym, append_assoc, append-nil, arith}
use Rattle.at_commands.proofs.Prelude.{Global, flat_map-append, length-append, take-append-drop, take-append-le, take_more, take-append-add, TakesPrefix, joined}

abbrev bytes_of : Vec ℕ Global → List ℕ
bytes_of piece = piece.items

-- one more piece
joined-take_more : (pieces : List (Vec ℕ Global)) (i : ℕ) (d : Vec ℕ Global) → i < length pieces
    → joined (take (i + 1) pieces) ≡ joined (take i pieces) ++ (get_or pieces i d).items
joined-take_more pieces i d within =
    let p = get_or pieces i d in
    ap joined (take_more pieces i d within)
    ∙ (flat_map-append bytes_of (take i pieces) (p ∷ []) ∙ ap (λ (t : List ℕ). joined (take i pieces) ++ t) (append-nil p.items))

-- the pieces before one, it, and those behind it
joined-parts : (pieces : List (Vec ℕ Global)) (i : ℕ) (d : Vec ℕ Global) → i < length pieces
    → joined pieces ≡ joined (take i pieces) ++ ((get_or pieces i d).items ++ joined (drop (i + 1) pieces))
joined-parts pieces i d within =
    let p = get_or pieces i d in
    let behind = joined (drop (i + 1) pieces) in
    sym (ap joined (take-append-drop (i + 1) pieces))
    ∙ (flat_map-append bytes_of (take (i + 1) pieces) (drop (i + 1) pieces)
    ∙ (ap (λ (t : List ℕ). t ++ behind) (joined-take_more pieces i d within) ∙ append_assoc (joined (take i pieces)) p.items behind))

-- all of some texts, and then a prefix of the next, is a prefix of them all
take_seam : (a p behind old mid new : List ℕ) → mid ≡ old ++ a → TakesPrefix mid new p → TakesPrefix old new (a ++ (p ++ behind))
take_seam a p behind old mid new took (n, (below, is)) =
    let long : length (a ++ (p ++ behind)) ≡ length a + (length p + length behind) = length-append a (p ++ behind) ∙ ap (λ m. length a + m) (length-append p behind) in
    let first : take (length a + n) (a ++ (p ++ behind)) ≡ a ++ take n p =
    take-append-add a (p ++ behind) n ∙ ap (λ (t : List ℕ). a ++ t) (take-append-le n p behind (omega arith)) in
    (length a + n, (omega (arith, long), is ∙ (ap (λ (t : List ℕ). t ++ take n p) took ∙ (append_assoc old a (take n p) ∙ ap (λ (t : List ℕ). old ++ t) (sym first)))))

pub TakesPrefix-pieces : (pieces : List (Vec ℕ Global)) (i : ℕ) (d : Vec ℕ Global) (bytes old mid new : List ℕ) → i < length pieces → bytes ≡ (get_or pieces i d).items
    → mid ≡ old ++ joined (take i pieces) → TakesPrefix mid new bytes → TakesPrefix old new (joined pieces)
TakesPrefix-pieces pieces i d bytes old mid new within is took prefix =
    rw (joined-parts pieces i d within) (take_seam (joined (take i pieces)) (get_or pieces i d).items (joined (drop (i + 1) pieces)) old mid new took (rw is at prefix))
