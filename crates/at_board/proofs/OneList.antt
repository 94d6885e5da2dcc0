-- All states that the rule allows at one moment have published one list.
use Rattle.std.proofs.Common.{◌≡◌, ℕ, ◌+◌, ◌-◌, ◌<◌, ◌≤◌, List, [], ◌∷◌, length, take, refl, sym, ap, subst, ◌∙◌, arith, inl, inr}
use Rattle.at_board.proofs.Prelude.{get_elem?, some, cases_lt, take_all, BookTerms, position-below, position-below_from_count, IsPrefix-length, take-IsPrefix, publication_at, IsPrefix, count_of, no_publication, Publication, Ruled, Knowledge}

-- a prefix that is no shorter is the whole list
whole-IsPrefix : (xs ys : List Publication) → IsPrefix xs ys → length ys ≤ length xs → xs ≡ ys
whole-IsPrefix xs ys before long = sym (take-IsPrefix xs ys before) ∙ take_all (length xs) ys long

-- a prefix with all publications of the process that published last is the whole list
whole-count_of : (xs ys : List Publication) (m : ℕ) → IsPrefix xs ys → length ys ≡ m + 1
    → count_of (publication_at ys m).process xs ≡ count_of (publication_at ys m).process ys → xs ≡ ys
whole-count_of xs ys m before last same =
    let p = (publication_at ys m).process in
    let counted : count_of p (take m ys) < count_of p (take (length xs) ys) = omega (
      arith,
      position-below p m (length ys) ys no_publication (omega (arith, last)) refl (omega (arith, last)),
      ap (count_of p) (take_all (length ys) ys (omega arith)),
      ap (count_of p) (take-IsPrefix xs ys before),
      same,
    ) in
    whole-IsPrefix xs ys before (omega (arith, last, position-below_from_count p m (length xs) ys counted))

-- the seat of the process that published last has seen the whole list
pub seen-Ruled : (b : BookTerms) (words : List ℕ) (knowledge : List Knowledge) (ruled : Ruled b words knowledge) (m : ℕ)
    → length ruled.state.published ≡ m + 1
    → (id : ℕ) × (v : Knowledge) × (get_elem? knowledge id ≡ some v) × (v.seen ≡ ruled.state.published)
seen-Ruled b words knowledge ruled m last =
    let xs = ruled.state.published in
    let p = (publication_at xs m).process in
    let found = ruled.seated.some_seat p (ruled.sound.views m (omega (arith, last))).process in
    let v : Knowledge = found.0 in
    let knows = ruled.knows (ruled.seat p) v found.1 in
    let k = p - v.first in
    let part = knows.parts k (omega (arith, found.2.0, found.2.1)) in
    let at : v.first + k ≡ p = omega (arith, found.2.0) in
    let same = subst (λ q. count_of q v.seen ≡ count_of q xs) at (part.seen ∙ part.published) in
    (ruled.seat p, v, found.1, whole-count_of v.seen xs m knows.seen last same)

IsPrefix-none : (xs ys : List Publication) → length xs ≡ 0 → IsPrefix xs ys
IsPrefix-none [] ys none = (ys, refl)
IsPrefix-none (x ∷ xs) ys none = absurd (omega (arith, none))

IsPrefix-Ruled : (b : BookTerms) (words : List ℕ) (knowledge : List Knowledge) (one other : Ruled b words knowledge)
    → IsPrefix one.state.published other.state.published
IsPrefix-Ruled b words knowledge one other =
    let xs = one.state.published in
    let ys = other.state.published in
    elim (cases_lt 0 (length xs)) as (λ _. IsPrefix xs ys) [
      | inl more ↦
          let found = seen-Ruled b words knowledge one (length xs - 1) (omega (arith, more)) in
          subst (λ t. IsPrefix t ys) found.3 (other.knows found.0 found.1 found.2).seen
      | inr none ↦ IsPrefix-none xs ys (omega (arith, none))
    ]

-- all states that the words and the seats may stand for have published one list
pub published-Ruled : (b : BookTerms) (words : List ℕ) (knowledge : List Knowledge) (one other : Ruled b words knowledge)
    → one.state.published ≡ other.state.published
published-Ruled b words knowledge one other =
    let xs = one.state.published in
    let ys = other.state.published in
    whole-IsPrefix xs ys (IsPrefix-Ruled b words knowledge one other) (IsPrefix-length ys xs (IsPrefix-Ruled b words knowledge other one))
