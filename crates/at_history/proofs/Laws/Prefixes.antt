-- Prefixes of a list, and the longer of two lists that are both prefixes of one.
use Rattle.std.proofs.Common.{◌≡◌, Bool, cond, List, length, sym, ap, subst, arith, inl, inr, ℕ, ◌+◌, ◌<◌, ◌≤◌, [], ◌++◌, take, drop, refl, ◌∙◌, ◌∷◌}
use Rattle.at_history.proofs.Prelude.{cases_lt, le-ltb, lt-ltb, length-append, length-take, append-nil, append_assoc, take-append-drop, take-take, take-append-le, take_at, get_or-take, take_more, get_or_append_left, All-from_get_or, All, publication_at, IsPrefix, longer, ArePublishedBy, count_of, no_publication, publications_of, Publication}
use Rattle.at_history.proofs.Laws.Counts.{count_of-append, publications_of-append}

-- both are prefixes of the longer, which is a prefix of that one
pub record IsLonger (xs ys all : List Publication) : Type 0 where
  pub first : IsPrefix xs (longer xs ys)
  pub second : IsPrefix ys (longer xs ys)
  pub before : IsPrefix (longer xs ys) all

pub IsPrefix-refl : (xs : List Publication) → IsPrefix xs xs
IsPrefix-refl xs = ([], sym (append-nil xs))

-- a prefix is that many of the first elements
pub take-IsPrefix : (xs ys : List Publication) → IsPrefix xs ys → take (length xs) ys ≡ xs
take-IsPrefix xs ys (more, e) = ap (take (length xs)) e ∙ take_at xs more (length xs) refl

pub IsPrefix-take : (m : ℕ) (xs : List Publication) → IsPrefix (take m xs) xs
IsPrefix-take m xs = (drop m xs, sym (take-append-drop m xs))

pub IsPrefix-take_mono : (m k : ℕ) (xs : List Publication) → m ≤ k → IsPrefix (take m xs) (take k xs)
IsPrefix-take_mono m k xs shorter =
    subst (λ t. IsPrefix t (take k xs)) (take-take m k xs shorter) (IsPrefix-take m (take k xs))

-- of two prefixes of one list the shorter is a prefix of the longer
pub IsPrefix-both : (xs ys zs : List Publication) → IsPrefix xs zs → IsPrefix ys zs → length xs ≤ length ys → IsPrefix xs ys
IsPrefix-both xs ys zs a b shorter =
    subst (λ t. IsPrefix t ys) (take-IsPrefix xs zs a)
    (subst (λ t. IsPrefix (take (length xs) zs) t) (take-IsPrefix ys zs b) (IsPrefix-take_mono (length xs) (length ys) zs shorter))

pub IsLonger-longer : (xs ys all : List Publication) → IsPrefix xs all → IsPrefix ys all → IsLonger xs ys all
IsLonger-longer xs ys all one two =
    elim (cases_lt (length xs) (length ys)) as (λ _. IsLonger xs ys all) [
      | inl below ↦
          let is : ys ≡ longer xs ys = sym (ap (λ (t : Bool). cond t ys xs) (lt-ltb (length xs) (length ys) below)) in
          record {
            first = subst (IsPrefix xs) is (IsPrefix-both xs ys all one two (omega arith));
            second = subst (IsPrefix ys) is (IsPrefix-refl ys);
            before = subst (λ t. IsPrefix t all) is two;
          }
      | inr above ↦
          let is : xs ≡ longer xs ys = sym (ap (λ (t : Bool). cond t ys xs) (le-ltb (length xs) (length ys) above)) in
          record {
            first = subst (IsPrefix xs) is (IsPrefix-refl xs);
            second = subst (IsPrefix ys) is (IsPrefix-both ys xs all two one above);
            before = subst (λ t. IsPrefix t all) is one;
          }
    ]

-- what holds of both holds of the longer
pub longer-either : (P : List Publication → Type 0) (xs ys : List Publication) → P xs → P ys → P (longer xs ys)
longer-either P xs ys one two =
    elim (cases_lt (length xs) (length ys)) as (λ _. P (longer xs ys)) [
      | inl below ↦ subst P (sym (ap (λ (t : Bool). cond t ys xs) (lt-ltb (length xs) (length ys) below))) two
      | inr above ↦ subst P (sym (ap (λ (t : Bool). cond t ys xs) (le-ltb (length xs) (length ys) above))) one
    ]

-- prefixes

pub IsPrefix-append : (xs ys : List Publication) → IsPrefix xs (xs ++ ys)
IsPrefix-append xs ys = (ys, refl)

pub IsPrefix-trans : (xs ys zs : List Publication) → IsPrefix xs ys → IsPrefix ys zs → IsPrefix xs zs
IsPrefix-trans xs ys zs (more, a) (most, b) = (more ++ most, b ∙ (ap (λ t. t ++ most) a ∙ append_assoc xs more most))

pub IsPrefix-length : (xs ys : List Publication) → IsPrefix xs ys → length xs ≤ length ys
IsPrefix-length xs ys (more, e) = omega (arith, ap length e, length-append xs more)

pub IsPrefix-count_of : (process : ℕ) (xs ys : List Publication) → IsPrefix xs ys → count_of process xs ≤ count_of process ys
IsPrefix-count_of process xs ys (more, e) = omega (arith, ap (count_of process) e, count_of-append process xs more)

-- the first elements of a list are those of a longer one
pub take-IsPrefix-le : (m : ℕ) (xs ys : List Publication) → m ≤ length xs → IsPrefix xs ys → take m ys ≡ take m xs
take-IsPrefix-le m xs ys within (more, e) = ap (take m) e ∙ take-append-le m xs more within

pub ArePublishedBy-take : (n m : ℕ) (xs : List Publication) → ArePublishedBy n xs → ArePublishedBy n (take m xs)
ArePublishedBy-take n m xs known = λ k d within.
    let inside : (k < m) × (k < length xs) = (omega (arith, length-take m xs), omega (arith, length-take m xs)) in
    subst (λ (x : Publication). x.process < n) (sym (get_or-take m xs k d inside.0)) (known k d inside.1)

pub ArePublishedBy-IsPrefix : (n : ℕ) (xs ys : List Publication) → IsPrefix xs ys → ArePublishedBy n ys → ArePublishedBy n xs
ArePublishedBy-IsPrefix n xs ys before known =
    subst (ArePublishedBy n) (take-IsPrefix xs ys before) (ArePublishedBy-take n (length xs) ys known)

-- the next prefix
pub take-publication_at : (xs : List Publication) (m : ℕ) → m < length xs → take (m + 1) xs ≡ take m xs ++ publication_at xs m ∷ []
take-publication_at xs m within = take_more xs m no_publication within

-- each record of a prefix is the board's
pub each_record : (P : Publication → Type 0) (xs all : List Publication) → IsPrefix xs all
    → ((m : ℕ) → m < length all → P (publication_at all m)) → All P xs
each_record P xs all before each =
    All-from_get_or P xs no_publication (λ m within.
    let here : publication_at all m ≡ publication_at xs m =
    ap (λ t. publication_at t m) before.1 ∙ get_or_append_left xs before.0 no_publication m within in
    subst P here (each m (omega (arith, within, IsPrefix-length xs all before))))

-- record i of a process is the same in a longer list
pub publications_of-IsPrefix : (p i : ℕ) (xs ys : List Publication) → IsPrefix xs ys → i < count_of p xs
    → publication_at (publications_of p ys) i ≡ publication_at (publications_of p xs) i
publications_of-IsPrefix p i xs ys (more, e) within =
    ap (λ t. publication_at t i) (ap (publications_of p) e ∙ publications_of-append p xs more)
    ∙ get_or_append_left (publications_of p xs) (publications_of p more) no_publication i within
