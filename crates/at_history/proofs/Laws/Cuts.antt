-- The law of cuts: counts that are those of a prefix, and what follows of their places and of covering.
use Rattle.std.proofs.Common.{◌≡◌, ℕ, ◌<◌, [], sum, replicate, sym, ap, ◌∙◌, ◌≤◌, suc, List, ◌∷◌, length, get_or, take, subst, arith, inl, inr}
use Rattle.at_history.proofs.Prelude.{cases_lt, length-take, take-take, take_all, All-nil, sum_by-cons, Covers, place, IsCut, prefix_of, ArePublishedBy, IsPrefix, count_of, counts, no_publication, Publication}
use Rattle.at_history.proofs.Laws.Counts.{sum-counts, counts-nil, IsPosition, count_of-take_mono, get_or-counts, length-counts, position-below}
use Rattle.at_history.proofs.Laws.Prefixes.{take-IsPrefix, take-IsPrefix-le, IsPrefix-take_mono, ArePublishedBy-take}

pub place-zeros : (n : ℕ) → place (replicate n 0) ≡ 0
place-zeros n = ap sum (sym (counts-nil n)) ∙ sum-counts n [] (All-nil (λ (x : Publication). x.process < n))

-- cuts

pub length-IsCut : (n : ℕ) (view : List ℕ) (xs : List Publication) → IsCut n view xs → length view ≡ n
length-IsCut n view xs cut = ap length (sym cut) ∙ length-counts n (prefix_of view xs)

-- the entry of a cut is the number of the process's publications in its prefix
pub get_or-IsCut : (n : ℕ) (view : List ℕ) (xs : List Publication) (process : ℕ) → IsCut n view xs → process < n
    → get_or view process 0 ≡ count_of process (prefix_of view xs)
get_or-IsCut n view xs process cut within =
    ap (λ v. get_or v process 0) (sym cut) ∙ get_or-counts n (prefix_of view xs) process 0 within

pub place-IsCut-le : (n : ℕ) (view : List ℕ) (xs : List Publication) → IsCut n view xs → ArePublishedBy n xs
    → place view ≤ length xs
place-IsCut-le n view xs cut known =
    omega (arith, sum-counts n (prefix_of view xs) (ArePublishedBy-take n (place view) xs known), ap sum cut, length-take (place view) xs)

-- the counts of a list are a cut of it
pub IsCut-counts : (n : ℕ) (xs : List Publication) → ArePublishedBy n xs → IsCut n (counts n xs) xs
IsCut-counts n xs known =
    let all : prefix_of (counts n xs) xs ≡ xs = take_all (place (counts n xs)) xs (omega (arith, sum-counts n xs known)) in
    ap (counts n) all

-- a cut of a list is a cut of every list that begins with it
pub IsCut-IsPrefix : (n : ℕ) (view : List ℕ) (xs ys : List Publication) → IsCut n view xs → ArePublishedBy n xs
    → IsPrefix xs ys → IsCut n view ys
IsCut-IsPrefix n view xs ys cut known longer =
    ap (counts n) (take-IsPrefix-le (place view) xs ys (place-IsCut-le n view xs cut known) longer) ∙ cut

-- its prefix is the same one
pub prefix_of-IsPrefix : (n : ℕ) (view : List ℕ) (xs ys : List Publication) → IsCut n view xs → ArePublishedBy n xs
    → IsPrefix xs ys → prefix_of view ys ≡ prefix_of view xs
prefix_of-IsPrefix n view xs ys cut known longer =
    take-IsPrefix-le (place view) xs ys (place-IsCut-le n view xs cut known) longer

-- a cut of a list whose place a prefix reaches is a cut of that prefix
pub IsCut-take : (n : ℕ) (view : List ℕ) (xs : List Publication) (m : ℕ) → IsCut n view xs → place view ≤ m
    → IsCut n view (take m xs)
IsCut-take n view xs m cut within = ap (counts n) (take-take (place view) m xs within) ∙ cut

-- a list of counts that covers another has no smaller sum
pub sum-Covers-le : (view other : List ℕ) → length view ≡ length other → Covers view other → sum other ≤ sum view
sum-Covers-le [] [] same covers = omega arith
sum-Covers-le [] (b ∷ other) same covers = absurd (omega arith)
sum-Covers-le (a ∷ view) [] same covers = absurd (omega arith)
sum-Covers-le (a ∷ view) (b ∷ other) same covers =
    let rest = sum-Covers-le view other (omega arith) (λ p within. covers (suc p) (omega arith)) in
    omega (arith, rest, covers 0 (omega arith), sum_by-cons (λ n. n) a view, sum_by-cons (λ n. n) b other)

-- a publication of a process lies in the prefix of a cut exactly where the cut's entry counts it
pub position-IsCut : (n : ℕ) (view : List ℕ) (xs : List Publication) (process i m : ℕ) → IsCut n view xs → process < n
    → IsPosition process i xs m → m < place view → i < get_or view process 0
position-IsCut n view xs process i m cut within position below =
    omega (
      arith,
      get_or-IsCut n view xs process cut within,
      position.before,
      position-below process m (place view) xs no_publication position.within (position.own no_publication) below,
    )

-- a cut that counts more of one process than a prefix begins with that prefix
pub place-IsCut-above : (n : ℕ) (view : List ℕ) (xs ys : List Publication) (process : ℕ) → IsCut n view ys → process < n
    → IsPrefix xs ys → count_of process xs < get_or view process 0 → length xs < place view
place-IsCut-above n view xs ys process cut within before more =
    elim (cases_lt (length xs) (place view)) as (λ _. length xs < place view) [
      | inl below ↦ below
      | inr above ↦ absurd (omega (
        arith,
        get_or-IsCut n view ys process cut within,
        count_of-take_mono process (place view) (length xs) ys above,
        ap (count_of process) (take-IsPrefix xs ys before),
      ))
    ]

pub IsPrefix-prefix_of : (n : ℕ) (view : List ℕ) (xs ys : List Publication) (process : ℕ) → IsCut n view ys → process < n
    → IsPrefix xs ys → count_of process xs < get_or view process 0 → IsPrefix xs (prefix_of view ys)
IsPrefix-prefix_of n view xs ys process cut within before more =
    let above = place-IsCut-above n view xs ys process cut within before more in
    subst (λ t. IsPrefix t (prefix_of view ys)) (take-IsPrefix xs ys before)
    (IsPrefix-take_mono (length xs) (place view) ys (omega arith))

-- a prefix that a cut covers is a prefix of the cut's
pub IsPrefix-prefix_of_from_le : (view : List ℕ) (xs ys : List Publication) → IsPrefix xs ys → length xs ≤ place view
    → IsPrefix xs (prefix_of view ys)
IsPrefix-prefix_of_from_le view xs ys before covered =
    subst (λ t. IsPrefix t (prefix_of view ys)) (take-IsPrefix xs ys before)
    (IsPrefix-take_mono (length xs) (place view) ys covered)
