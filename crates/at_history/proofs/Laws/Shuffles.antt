-- Lists with the same records of each process: what doesn't depend on the order between processes.
use Rattle.std.proofs.Common.{◌≡◌, ℕ, ◌+◌, ◌||◌, Bool, true, false, List, [], ◌∷◌, ◌++◌, length, get_or, take, drop, refl, sym, ap, subst, ◌∙◌, arith, inl, inr}
use Rattle.at_history.proofs.Prelude.{cases_eq, drop_more, length-append, take-append-drop, take_at, All-append, All-head, All-tail, All-take, list_any-append, All, list_any, nil_from_length, no_publication, publications_of, Publication}
use Rattle.at_history.proofs.Laws.Counts.{IsPosition, get_or-publications_of, position_of, publications_of-append, publications_of-nil, publications_of-other, publications_of-own}

-- the same records of each process, in the same order
abbrev pub HasSameRecords : List Publication → List Publication → Type 0
HasSameRecords xs ys = (p : ℕ) → publications_of p xs ≡ publications_of p ys

-- the second list has the elements of the first in some order
abbrev pub IsShuffle : List Publication → List Publication → Type 0
IsShuffle [] ys = ys ≡ []
IsShuffle (x ∷ xs) ys = (cut : List Publication) × (back : List Publication) × (ys ≡ cut ++ x ∷ back) × IsShuffle xs (cut ++ back)

empty_from_none : (ys : List Publication) → HasSameRecords [] ys → ys ≡ []
empty_from_none [] same = refl
empty_from_none (y ∷ ys) same =
    absurd (omega (arith, ap length (sym (publications_of-nil y.process) ∙ (same y.process ∙ publications_of-own y ys))))

-- without an element of which no record of its process stands before it
HasSameRecords-without : (x : Publication) (xs cut back : List Publication) → HasSameRecords (x ∷ xs) (cut ++ x ∷ back)
    → publications_of x.process cut ≡ [] → HasSameRecords xs (cut ++ back)
HasSameRecords-without x xs cut back same none p =
    elim (cases_eq x.process p) as (λ _. publications_of p xs ≡ publications_of p (cut ++ back)) [
      | inl own ↦
          subst (λ q. publications_of q xs ≡ publications_of q (cut ++ back)) own
          (own_case (publications_of x.process xs) (publications_of x.process back)
          (sym (publications_of-own x xs)
          ∙ (same x.process
          ∙ (publications_of-append x.process cut (x ∷ back)
          ∙ (ap (λ t. t ++ publications_of x.process (x ∷ back)) none ∙ publications_of-own x back))))
          ∙ sym (publications_of-append x.process cut back ∙ ap (λ t. t ++ publications_of x.process back) none))
      | inr other ↦
          sym (publications_of-other p x xs other)
          ∙ (same p
          ∙ (publications_of-append p cut (x ∷ back)
          ∙ (ap (λ t. publications_of p cut ++ t) (publications_of-other p x back other) ∙ sym (publications_of-append p cut back))))
    ]
  where
    own_case : (us vs : List Publication) → x ∷ us ≡ x ∷ vs → us ≡ vs
    own_case us vs e = cc

pub IsShuffle-HasSameRecords : (xs ys : List Publication) → HasSameRecords xs ys → IsShuffle xs ys
IsShuffle-HasSameRecords [] ys same = empty_from_none ys same
IsShuffle-HasSameRecords (x ∷ xs) ys same =
    let here = sym (publications_of-own x xs) ∙ same x.process in
    let found = position_of x.process 0 ys (omega (arith, ap length here)) in
    let m : ℕ = found.0 in
    let at : IsPosition x.process 0 ys m = found.1 in
    let d = no_publication in
    let is_x : get_or ys m d ≡ x =
    sym (get_or-publications_of x.process m ys d at.within (at.own d))
    ∙ (ap (λ i. get_or (publications_of x.process ys) i d) at.before ∙ ap (λ t. get_or t 0 d) (sym here)) in
    let split : ys ≡ take m ys ++ x ∷ drop (m + 1) ys =
    sym (take-append-drop m ys) ∙ ap (λ rest. take m ys ++ rest) (drop_more ys m d at.within ∙ ap (λ y. y ∷ drop (m + 1) ys) is_x) in (
      take m ys,
      drop (m + 1) ys,
      split,
      IsShuffle-HasSameRecords xs (take m ys ++ drop (m + 1) ys)
          (HasSameRecords-without x xs (take m ys) (drop (m + 1) ys) (λ p. same p ∙ ap (publications_of p) split)
          (nil_from_length (publications_of x.process (take m ys)) at.before)),
    )

-- a test of some element, with one element in the middle
pub list_any-middle : (g : Publication → Bool) (cut : List Publication) (x : Publication) (back : List Publication)
    → list_any g (cut ++ x ∷ back) ≡ (g x || list_any g (cut ++ back))
list_any-middle g cut x back =
    list_any-append g cut (x ∷ back) ∙ (or_swap (list_any g cut) (g x) (list_any g back) ∙ ap (λ t. g x || t) (sym (list_any-append g cut back)))
  where
    or_swap : (s t u : Bool) → (s || (t || u)) ≡ (t || (s || u))
    or_swap true true u = refl
    or_swap true false u = refl
    or_swap false t u = refl

pub list_any-IsShuffle : (g : Publication → Bool) (xs ys : List Publication) → IsShuffle xs ys → list_any g xs ≡ list_any g ys
list_any-IsShuffle g [] ys none = ap (list_any g) (sym none)
list_any-IsShuffle g (x ∷ xs) ys (cut, back, split, rest) =
    ap (λ t. g x || t) (list_any-IsShuffle g xs (cut ++ back) rest) ∙ sym (ap (list_any g) split ∙ list_any-middle g cut x back)

pub length-IsShuffle : (xs ys : List Publication) → IsShuffle xs ys → length xs ≡ length ys
length-IsShuffle [] ys none = ap length (sym none)
length-IsShuffle (x ∷ xs) ys (cut, back, split, rest) =
    omega (arith, length-IsShuffle xs (cut ++ back) rest, ap length split, length-append cut (x ∷ back), length-append cut back)

-- all of a list without one element, and of what stands before it
pub All-before : (P : Publication → Type 0) (cut back : List Publication) → All P (cut ++ back) → All P cut
All-before P cut back all = subst (All P) (take_at cut back (length cut) refl) (All-take P (length cut) (cut ++ back) all)

pub All-middle : (P : Publication → Type 0) (cut : List Publication) (x : Publication) (back : List Publication) → All P (cut ++ x ∷ back) → P x
All-middle P [] x back all = All-head P x back all
All-middle P (a ∷ cut) x back all = All-middle P cut x back (All-tail P a (cut ++ x ∷ back) all)

pub All-without : (P : Publication → Type 0) (cut : List Publication) (x : Publication) (back : List Publication)
    → All P (cut ++ x ∷ back) → All P (cut ++ back)
All-without P [] x back all = All-tail P x back all
All-without P (a ∷ cut) x back all =
    All-append P (a ∷ []) (cut ++ back) (All-before P (a ∷ []) (cut ++ x ∷ back) all) (All-without P cut x back (All-tail P a (cut ++ x ∷ back) all))
