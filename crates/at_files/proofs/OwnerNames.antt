-- The owners that names give.
use Rattle.std.proofs.Common.{◌≡◌, ℕ, ◌+◌, ◌<◌, ◌≤◌, ◌==◌, true, List, [], ◌∷◌, ◌++◌, length, drop, get_or, Result, Ok, Err, refl, sym, ◌∙◌, ap, append_assoc, append-nil, arith}
use Rattle.at_files.proofs.Prelude.{at_drop_more, at_drop_all, length_push, position_of, owner_known, owners_named, pieces_of, BookWhy, and_then}

-- owners before those that come later, unless a fault does
abbrev pub owners_before : List ℕ → Result (List ℕ) BookWhy → Result (List ℕ) BookWhy
owners_before owners (Ok later) = Ok (owners ++ later)
owners_before owners (Err w) = Err w

-- these are the owners of the first pieces, as many as `count`
pub record AreNamed (processes : List (List ℕ)) (account : ℕ) (pieces : List (List ℕ)) (owners : List ℕ) (least count : ℕ) : Type 0 where
  pub named : owners_named processes account 0 0 pieces ≡ owners_before owners (owners_named processes account count least (drop count pieces))
  pub counted : length owners ≡ count

owners_before-none : (later : Result (List ℕ) BookWhy) → owners_before [] later ≡ later
owners_before-none (Ok later) = refl
owners_before-none (Err w) = refl

owners_before-push : (owners : List ℕ) (owner : ℕ) (later : Result (List ℕ) BookWhy)
    → owners_before owners (and_then later (λ more. Ok (owner ∷ more))) ≡ owners_before (owners ++ owner ∷ []) later
owners_before-push owners owner (Ok later) = ap Ok (sym (append_assoc owners (owner ∷ []) later))
owners_before-push owners owner (Err w) = refl

owners_named-drop : (processes : List (List ℕ)) (account : ℕ) (pieces : List (List ℕ)) (least count : ℕ) (piece : List ℕ)
    → (count < length pieces) × (piece ≡ get_or pieces count piece)
    → owners_named processes account count least (drop count pieces)
    ≡ and_then (owner_known account count least (position_of processes piece))
    (λ owner. and_then (owners_named processes account (count + 1) (owner + 1) (drop (count + 1) pieces)) (λ owners. Ok (owner ∷ owners)))
unfolding owners_named
owners_named-drop processes account pieces least count piece turn =
    at_drop_more (owners_named processes account count least) pieces count piece turn.0
    ∙ ap (λ p. and_then (owner_known account count least (position_of processes p))
    (λ owner. and_then (owners_named processes account (count + 1) (owner + 1) (drop (count + 1) pieces)) (λ owners. Ok (owner ∷ owners)))) (sym turn.1)

pub AreNamed-start : (processes : List (List ℕ)) (account : ℕ) (pieces : List (List ℕ)) → AreNamed processes account pieces [] 0 0
AreNamed-start processes account pieces = record { named = sym (owners_before-none (owners_named processes account 0 0 pieces)); counted = refl }

pub AreNamed-more : (processes : List (List ℕ)) (account : ℕ) (pieces : List (List ℕ)) (owners : List ℕ) (least count : ℕ) (piece : List ℕ) (owner : ℕ)
    → AreNamed processes account pieces owners least count → (count < length pieces) × (piece ≡ get_or pieces count piece)
    → owner_known account (length owners) least (position_of processes piece) ≡ Ok owner → AreNamed processes account pieces (owners ++ owner ∷ []) (owner + 1) (count + 1)
AreNamed-more processes account pieces owners least count piece owner are turn known = record {
  named =
      are.named
      ∙ rw (owners_named-drop processes account pieces least count piece turn, rw are.counted at known)
      (owners_before-push owners owner (owners_named processes account (count + 1) (owner + 1) (drop (count + 1) pieces)));
  counted = let same = are.counted in omega (arith, length_push owners owner);
}

pub AreNamed-bad : (processes : List (List ℕ)) (account : ℕ) (pieces : List (List ℕ)) (owners : List ℕ) (least count : ℕ) (piece : List ℕ) (w : BookWhy)
    → AreNamed processes account pieces owners least count → (count < length pieces) × (piece ≡ get_or pieces count piece)
    → owner_known account (length owners) least (position_of processes piece) ≡ Err w → owners_named processes account 0 0 pieces ≡ Err w
AreNamed-bad processes account pieces owners least count piece w are turn known =
    are.named ∙ rw (owners_named-drop processes account pieces least count piece turn, rw are.counted at known) refl

pub AreNamed-end : (processes : List (List ℕ)) (account : ℕ) (pieces : List (List ℕ)) (owners : List ℕ) (least count : ℕ) → AreNamed processes account pieces owners least count
    → length pieces ≤ count → owners_named processes account 0 0 pieces ≡ Ok owners
unfolding owners_named
AreNamed-end processes account pieces owners least count are all =
    are.named ∙ rw (at_drop_all (owners_named processes account count least) pieces count all) (ap Ok (append-nil owners))

-- an empty field has no owner
pub owners_named-empty : (processes : List (List ℕ)) (account : ℕ) (text : List ℕ) → (length text == 0) ≡ true → owners_named processes account 0 0 (pieces_of text) ≡ Ok []
unfolding owners_named
owners_named-empty processes account text empty = rw empty refl
