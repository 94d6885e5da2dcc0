-- Reading the words of a closed table.
use Rattle.std.proofs.Common.{◌≡◌, ℕ, zero, suc, List, [], ◌∷◌, get_or, sym}
use Rattle.at_board.proofs.Prelude.{get_elem?, some, some-injective, some-ne-none}

-- the word that a closed table gives is the one that stands there
pub get_or-get_elem : (words : List ℕ) (i word d : ℕ) → get_elem? words i ≡ some word → get_or words i d ≡ word
get_or-get_elem [] i word d found = absurd (some-ne-none word (sym found))
get_or-get_elem (first ∷ rest) zero word d found = some-injective first word found
get_or-get_elem (first ∷ rest) (suc i) word d found = get_or-get_elem rest i word d found
