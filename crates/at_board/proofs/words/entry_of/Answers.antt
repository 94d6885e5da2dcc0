use Rattle.std.proofs.Common.{ℕ, List, [], ◌∷◌, ap, get_or}
use Rattle.at_board.proofs.words.entry_of.Goals as goal

pub returns : goal.returns
returns c = λ e form same.
    let word = λ (k : ℕ). ap (λ (xs : List ℕ). get_or xs k 0) same in
    let third = word 3 in
    let fourth = word 4 in
    let fifth = word 5 in
    let sixth = word 6 in
    c.entry_from.ensures e form (word 0) (word 1) (word 2) (λ t. third t ∷ fourth t ∷ fifth t ∷ sixth t ∷ [])
