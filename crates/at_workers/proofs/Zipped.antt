-- Two lists that are related place by place.
use Rattle.std.proofs.Common.{◌≡◌, ℕ, suc, ◌<◌, List, [], ◌∷◌, length, get_or, arith}
use Rattle.at_workers.proofs.Prelude.{AllZip}

pub AllZip-each : {X : Type 0} (R : X → X → Type 0) (xs ys : List X) → length ys ≡ length xs
    → ((i : ℕ) (d : X) → i < length xs → R (get_or xs i d) (get_or ys i d)) → AllZip R xs ys
AllZip-each R [] [] same each = tt
AllZip-each R [] (y ∷ ys) same each = absurd (omega arith)
AllZip-each R (x ∷ xs) [] same each = absurd (omega arith)
AllZip-each R (x ∷ xs) (y ∷ ys) same each =
    (each 0 x (omega arith), AllZip-each R xs ys (omega arith) (λ i d within. each (suc i) d (omega arith)))
