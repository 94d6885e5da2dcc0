-- The seats of a table, when one of them makes a step.
use Rattle.std.proofs.Common.{◌≡◌, ◌≢◌, ℕ, ◌<◌, zero, suc, List, [], ◌∷◌, length, set, sym, ap, subst, ◌∙◌, arith, inl, inr}
use Rattle.at_board.proofs.Prelude.{get_elem?, some, some-injective, some-ne-none, cases_eq, at_set, set_else, set_here, BookTerms, BoardState, Knows, AreSeated, Holds, Knowledge}

pub within_found : (knowledge : List Knowledge) (id : ℕ) (v : Knowledge) → get_elem? knowledge id ≡ some v → id < length knowledge
within_found [] id v found = absurd (some-ne-none v (sym found))
within_found (u ∷ knowledge) zero v found = omega arith
within_found (u ∷ knowledge) (suc id) v found = omega (arith, within_found knowledge id v found)

-- a step changes what one seat knows, and not for which processes it stands
pub AreSeated-set : (b : BookTerms) (seat : ℕ → ℕ) (knowledge : List Knowledge) (id : ℕ) (v w : Knowledge) → AreSeated b seat knowledge
    → get_elem? knowledge id ≡ some v → w.first ≡ v.first → length w.parts ≡ length v.parts → AreSeated b seat (set knowledge id w)
AreSeated-set b seat knowledge id v w seated found first parts = record {
  only = λ j p u there holds.
      elim (at_set knowledge id j w u there) as (λ _. seat p ≡ j) [
        | inl here ↦
            let mine : Holds w p = subst (λ t. Holds t p) (sym here.1) holds in
            let old : Holds v p = (omega (arith, mine.0, first), omega (arith, mine.1, first, parts)) in
            seated.only id p v found old ∙ sym here.0
        | inr other ↦ seated.only j p u other.1 holds
      ];
  some_seat = λ p within.
      let before = seated.some_seat p within in
      elim (cases_eq (seat p) id) as (λ _. (u : Knowledge) × (get_elem? (set knowledge id w) (seat p) ≡ some u) × Holds u p) [
        | inl mine ↦
            let same : before.0 ≡ v = some-injective before.0 v (sym before.1 ∙ (ap (get_elem? knowledge) mine ∙ found)) in
            let old : Holds v p = subst (λ t. Holds t p) same before.2 in
            let there : get_elem? (set knowledge id w) (seat p) ≡ some w =
            ap (get_elem? (set knowledge id w)) mine ∙ set_here knowledge id w (within_found knowledge id v found) in
            (w, there, (omega (arith, old.0, first), omega (arith, old.1, first, parts)))
        | inr other ↦ (before.0, set_else knowledge id (seat p) w other ∙ before.1, before.2)
      ];
}

-- what each seat knows after a step is the changed one, or another's that stayed
pub knows_after : (b : BookTerms) (words : List ℕ) (s : BoardState) (knowledge : List Knowledge) (id : ℕ) (w : Knowledge)
    → Knows b words s w → ((j : ℕ) (u : Knowledge) → j ≢ id → get_elem? knowledge j ≡ some u → Knows b words s u)
    → (j : ℕ) (u : Knowledge) → get_elem? (set knowledge id w) j ≡ some u → Knows b words s u
knows_after b words s knowledge id w own others j u there =
    elim (at_set knowledge id j w u there) as (λ _. Knows b words s u) [
      | inl here ↦ subst (Knows b words s) here.1 own
      | inr other ↦ others j u other.0 other.1
    ]
