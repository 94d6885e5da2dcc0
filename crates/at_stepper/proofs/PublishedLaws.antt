-- What is published, as the callers' seats have seen it.
use Rattle.std.proofs.Common.{◌≡◌, ◌≢◌, ℕ, ◌+◌, ◌<◌, ◌≤◌, Bool, cond, List, [], ◌∷◌, ◌++◌, length, sym, ap, subst, ◌∙◌, append-nil, append_assoc, arith, inl, inr}
use Rattle.at_stepper.proofs.Prelude.{get_or-append_seam, cases_eq, le-ltb, lt-ltb, cases_lt, length-append, count_of-append, count_of-push_own, IsPrefix-length, ArePublishedBy, IsPrefix, count_of, longer, Publication, PublishesAtMostOne}

-- of two lists that begin with each other none is longer
pub IsPrefix-same : (xs ys : List Publication) → IsPrefix xs ys → length ys ≤ length xs → ys ≡ xs
IsPrefix-same xs ys ([], is) short = is ∙ append-nil xs
IsPrefix-same xs ys (x ∷ more, is) short = absurd (omega (arith, short, ap (λ zs. length zs) is, length-append xs (x ∷ more)))

pub IsPrefix-antisym : (xs ys : List Publication) → IsPrefix xs ys → IsPrefix ys xs → xs ≡ ys
IsPrefix-antisym xs ys before behind = sym (IsPrefix-same xs ys before (IsPrefix-length ys xs behind))

-- the longer list is the one that begins with the other
pub longer-IsPrefix : (xs ys : List Publication) → IsPrefix xs ys → longer xs ys ≡ ys
longer-IsPrefix xs ys before =
    elim (cases_lt (length xs) (length ys)) as (λ _. longer xs ys ≡ ys) [
      | inl below ↦ ap (λ (t : Bool). cond t ys xs) (lt-ltb (length xs) (length ys) below)
      | inr above ↦ ap (λ (t : Bool). cond t ys xs) (le-ltb (length xs) (length ys) above) ∙ sym (IsPrefix-same xs ys before above)
    ]

pub longer-same : (xs ys : List Publication) → IsPrefix ys xs → longer xs ys ≡ xs
longer-same xs ys before = ap (λ (t : Bool). cond t ys xs) (le-ltb (length xs) (length ys) (IsPrefix-length ys xs before))

-- one record more of its process
count_of-more : (xs rest : List Publication) (x : Publication) → count_of x.process xs < count_of x.process (xs ++ x ∷ rest)
count_of-more xs rest x =
    omega (
      arith,
      ap (λ zs. count_of x.process zs) (sym (append_assoc xs (x ∷ []) rest)),
      count_of-append x.process (xs ++ x ∷ []) rest,
      count_of-push_own xs x,
    )

process-next : (n : ℕ) (xs rest : List Publication) (x : Publication) → ArePublishedBy n (xs ++ x ∷ rest) → x.process < n
process-next n xs rest x known =
    subst (λ (y : Publication). y.process < n)
    (get_or-append_seam xs x rest x) (known (length xs) x (omega (arith, length-append xs (x ∷ rest))))

-- a list that begins with another, and has no more of any process, is that
pub IsPrefix-counts : (n : ℕ) (xs ys : List Publication) → IsPrefix xs ys → ArePublishedBy n ys
    → ((q : ℕ) → q < n → count_of q ys ≤ count_of q xs) → ys ≡ xs
IsPrefix-counts n xs ys ([], is) known few = is ∙ append-nil xs
IsPrefix-counts n xs ys (x ∷ rest, is) known few =
    let inside = process-next n xs rest x (subst (ArePublishedBy n) is known) in
    absurd (omega (arith, few x.process inside, ap (count_of x.process) is, count_of-more xs rest x))

-- where it has one more at most, of this process, and none of another, it has that one more at its end
module _ (n p : ℕ) (xs : List Publication) where
  own-next : (ys rest : List Publication) (x : Publication) → ys ≡ xs ++ x ∷ rest → x.process < n
      → ((q : ℕ) → q < n → q ≢ p → count_of q ys ≤ count_of q xs) → x.process ≡ p
  own-next ys rest x is inside others =
      elim (cases_eq x.process p) as (λ _. x.process ≡ p) [
        | inl own ↦ own
        | inr other ↦ absurd (omega (arith, others x.process inside other, ap (count_of x.process) is, count_of-more xs rest x))
      ]

  counts-next : (ys : List Publication) (x : Publication) → x.process ≡ p → ((q : ℕ) → q < n → q ≢ p → count_of q ys ≤ count_of q xs)
      → count_of p ys ≤ count_of p xs + 1 → (q : ℕ) → q < n → count_of q ys ≤ count_of q (xs ++ x ∷ [])
  counts-next ys x own others few q inside =
      elim (cases_eq q p) as (λ _. count_of q ys ≤ count_of q (xs ++ x ∷ [])) [
        | inl here ↦
            subst (λ k. count_of k ys ≤ count_of k (xs ++ x ∷ [])) (own ∙ sym here)
            (omega (arith, subst (λ k. count_of k ys ≤ count_of k xs + 1) (sym own) few, count_of-push_own xs x))
        | inr other ↦ omega (arith, others q inside other, count_of-append q xs (x ∷ []))
      ]

  pub PublishesAtMostOne-counts : (ys : List Publication) → IsPrefix xs ys → ArePublishedBy n ys
      → ((q : ℕ) → q < n → q ≢ p → count_of q ys ≤ count_of q xs) → count_of p ys ≤ count_of p xs + 1 → PublishesAtMostOne p xs ys
  PublishesAtMostOne-counts ys ([], is) known others few = inl (is ∙ append-nil xs)
  PublishesAtMostOne-counts ys (x ∷ rest, is) known others few =
      let own = own-next ys rest x is (process-next n xs rest x (subst (ArePublishedBy n) is known)) others in
      inr (x, own, IsPrefix-counts n (xs ++ x ∷ []) ys (rest, is ∙ sym (append_assoc xs (x ∷ []) rest)) known (counts-next ys x own others few))
