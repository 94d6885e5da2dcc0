-- The numbers of an owners field.
use Rattle.std.proofs.Common.{◌≡◌, ℕ, ◌+◌, ◌<◌, ◌≤◌, ◌==◌, true, false, List, [], ◌∷◌, ◌++◌, length, drop, get_or, Option, Some, None, refl, sym, ◌∙◌, ap, append_assoc, append-nil}
use Rattle.at_files.proofs.Prelude.{at_drop_more, at_drop_all, number_of, slice_split, before, numbers_of, pieces_of}

-- numbers before those that come later, if each of these is one
abbrev pub numbers_before : List ℕ → Option (List ℕ) → Option (List ℕ)
numbers_before numbers (Some later) = Some (numbers ++ later)
numbers_before numbers None = None

-- these are the numbers of the first pieces, as many as `count`
pub record AreRead (pieces : List (List ℕ)) (numbers : List ℕ) (count : ℕ) : Type 0 where
  pub read : numbers_of pieces ≡ numbers_before numbers (numbers_of (drop count pieces))

pub numbers_before-none : (later : Option (List ℕ)) → numbers_before [] later ≡ later
numbers_before-none (Some later) = refl
numbers_before-none None = refl

pub numbers_before-push : (numbers : List ℕ) (n : ℕ) (later : Option (List ℕ)) → numbers_before numbers (before (Some n) later) ≡ numbers_before (numbers ++ n ∷ []) later
numbers_before-push numbers n (Some later) = ap Some (sym (append_assoc numbers (n ∷ []) later))
numbers_before-push numbers n None = refl

pub before-none : (later : Option (List ℕ)) → before None later ≡ None
before-none (Some later) = refl
before-none None = refl

numbers_of-drop : (pieces : List (List ℕ)) (count : ℕ) (piece : List ℕ) → (count < length pieces) × (piece ≡ get_or pieces count piece)
    → numbers_of (drop count pieces) ≡ before (number_of piece) (numbers_of (drop (count + 1) pieces))
unfolding numbers_of
numbers_of-drop pieces count piece turn =
    at_drop_more numbers_of pieces count piece turn.0 ∙ ap (λ p. before (number_of p) (numbers_of (drop (count + 1) pieces))) (sym turn.1)

pub AreRead-start : (pieces : List (List ℕ)) → AreRead pieces [] 0
AreRead-start pieces = record { read = sym (numbers_before-none (numbers_of pieces)) }

pub AreRead-more : (pieces : List (List ℕ)) (numbers : List ℕ) (count : ℕ) (piece : List ℕ) (n : ℕ) → AreRead pieces numbers count
    → (count < length pieces) × (piece ≡ get_or pieces count piece) → number_of piece ≡ Some n → AreRead pieces (numbers ++ n ∷ []) (count + 1)
AreRead-more pieces numbers count piece n are turn is = record {
  read = are.read ∙ rw (numbers_of-drop pieces count piece turn, is) (numbers_before-push numbers n (numbers_of (drop (count + 1) pieces)));
}

pub AreRead-bad : (pieces : List (List ℕ)) (numbers : List ℕ) (count : ℕ) (piece : List ℕ) → AreRead pieces numbers count
    → (count < length pieces) × (piece ≡ get_or pieces count piece) → number_of piece ≡ None → numbers_of pieces ≡ None
AreRead-bad pieces numbers count piece are turn is =
    are.read ∙ rw (numbers_of-drop pieces count piece turn, is, before-none (numbers_of (drop (count + 1) pieces))) refl

pub AreRead-end : (pieces : List (List ℕ)) (numbers : List ℕ) (count : ℕ) → AreRead pieces numbers count → length pieces ≤ count → numbers_of pieces ≡ Some numbers
unfolding numbers_of
AreRead-end pieces numbers count are all =
    are.read ∙ rw (at_drop_all numbers_of pieces count all) (ap Some (append-nil numbers))

-- an empty field has no owner
pub numbers_of-empty : (text : List ℕ) → (length text == 0) ≡ true → numbers_of (pieces_of text) ≡ Some []
unfolding numbers_of
numbers_of-empty text empty = rw empty refl

-- any other field is split at its spaces
pub pieces_of-some : (text : List ℕ) → (length text == 0) ≡ false → pieces_of text ≡ slice_split (λ byte. byte == 32) text
pieces_of-some text some = rw some refl
