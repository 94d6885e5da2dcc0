-- Counting the publications of a list and of its prefixes.
use Rattle.std.proofs.Common.{◌≡◌, ℕ, ◌+◌, ◌<◌, ◌≤◌, ◌==◌, zero, suc, List, [], ◌∷◌, ◌++◌, length, get_or, take, drop, refl, sym, ap, subst, ◌∙◌, arith, inl, inr, ◌⊎◌, replicate}
use Rattle.at_history.proofs.Prelude.{eq-eqb, ne_eqb, cases_eq, cases_lt, same_number_lists, length-append, take-append-drop, take-take, take_at, take_more, drop_more, get_or_at, length-replicate, append-nil, All-head, All-tail, filter-append, length-map-range_with_len, get_or-map-range_with_len, sum_by-cons, sum-map, sum, sum_by, range_with_len, publications_of, count_of, counts, ArePublishedBy, Publication}
use Rattle.at_history.proofs.Laws.Sums.{get_or-zeros}

pub publications_of-append : (process : ℕ) (xs ys : List Publication)
    → publications_of process (xs ++ ys) ≡ publications_of process xs ++ publications_of process ys
unfolding publications_of
publications_of-append process xs ys = filter-append (λ x. x.process == process) xs ys

-- a process's own publication comes in front of its others
pub publications_of-own : (x : Publication) (xs : List Publication)
    → publications_of x.process (x ∷ xs) ≡ x ∷ publications_of x.process xs
unfolding publications_of
publications_of-own x xs = rw (eq-eqb x.process x.process refl) refl

-- another process's publication doesn't count
pub publications_of-other : (process : ℕ) (x : Publication) (xs : List Publication) → (x.process ≡ process → ⊥)
    → publications_of process (x ∷ xs) ≡ publications_of process xs
unfolding publications_of
publications_of-other process x xs other = rw (ne_eqb x.process process other) refl

pub publications_of-nil : (process : ℕ) → publications_of process [] ≡ []
unfolding publications_of
publications_of-nil process = refl

pub count_of-append : (process : ℕ) (xs ys : List Publication)
    → count_of process (xs ++ ys) ≡ count_of process xs + count_of process ys
count_of-append process xs ys =
    ap length (publications_of-append process xs ys) ∙ length-append (publications_of process xs) (publications_of process ys)

-- one more publication of the process
pub count_of-push_own : (xs : List Publication) (x : Publication)
    → count_of x.process (xs ++ x ∷ []) ≡ count_of x.process xs + 1
count_of-push_own xs x =
    omega (arith, count_of-append x.process xs (x ∷ []), ap length (publications_of-own x []), ap length (publications_of-nil x.process))

-- one more publication of another process
pub count_of-push_other : (process : ℕ) (xs : List Publication) (x : Publication) → (x.process ≡ process → ⊥)
    → count_of process (xs ++ x ∷ []) ≡ count_of process xs
count_of-push_other process xs x other =
    omega (arith, count_of-append process xs (x ∷ []), ap length (publications_of-other process x [] other), ap length (publications_of-nil process))

-- a prefix counts no more than the list
pub count_of-take-le : (process m : ℕ) (xs : List Publication) → count_of process (take m xs) ≤ count_of process xs
count_of-take-le process m xs =
    let parts = ap (count_of process) (take-append-drop m xs) in
    omega (arith, parts, count_of-append process (take m xs) (drop m xs))

-- a shorter prefix counts no more than a longer one
pub count_of-take_mono : (process m k : ℕ) (xs : List Publication) → m ≤ k
    → count_of process (take m xs) ≤ count_of process (take k xs)
count_of-take_mono process m k xs shorter =
    let same = ap (count_of process) (take-take m k xs shorter) in
    omega (arith, same, count_of-take-le process m (take k xs))

pub length-counts : (n : ℕ) (xs : List Publication) → length (counts n xs) ≡ n
unfolding counts
length-counts n xs = length-map-range_with_len (λ p. count_of p xs) 0 n

pub get_or-counts : (n : ℕ) (xs : List Publication) (process d : ℕ) → process < n
    → get_or (counts n xs) process d ≡ count_of process xs
unfolding counts
get_or-counts n xs process d within =
    get_or-map-range_with_len (λ p. count_of p xs) 0 n process process d within (omega arith)

-- the sum of a weight over each process's publications, process by process
abbrev pub sum_by_process : (Publication → ℕ) → ℕ → ℕ → List Publication → ℕ
sum_by_process f a n xs = sum_by (λ p. sum_by f (publications_of p xs)) (range_with_len a n)

-- a publication of none of these processes has no weight for them
sum_by_process-outside : (f : Publication → ℕ) (a n : ℕ) (x : Publication) (xs : List Publication)
    → (x.process < a) ⊎ (a + n ≤ x.process) → sum_by_process f a n (x ∷ xs) ≡ sum_by_process f a n xs
sum_by_process-outside f a zero x xs outside = refl
sum_by_process-outside f a (suc n) x xs outside =
    let other : x.process ≡ a → ⊥ = λ e. elim outside [ inl below ↦ omega arith | inr above ↦ omega arith ] in
    let here = ap (sum_by f) (publications_of-other a x xs other) in
    let rest = sum_by_process-outside f (a + 1) n x xs (elim outside as (λ _. (x.process < a + 1) ⊎ (a + 1 + n ≤ x.process)) [ inl below ↦ inl (omega arith) | inr above ↦ inr (omega arith) ]) in
    omega (
      arith,
      here,
      rest,
      sum_by-cons (λ p. sum_by f (publications_of p (x ∷ xs))) a (range_with_len (a + 1) n),
      sum_by-cons (λ p. sum_by f (publications_of p xs)) a (range_with_len (a + 1) n),
    )

-- a publication of one of these processes adds its weight
sum_by_process-inside : (f : Publication → ℕ) (a n : ℕ) (x : Publication) (xs : List Publication)
    → a ≤ x.process → x.process < a + n → sum_by_process f a n (x ∷ xs) ≡ f x + sum_by_process f a n xs
sum_by_process-inside f a zero x xs above below = absurd (omega arith)
sum_by_process-inside f a (suc n) x xs above below =
    let first = sum_by-cons (λ p. sum_by f (publications_of p (x ∷ xs))) a (range_with_len (a + 1) n) in
    let second = sum_by-cons (λ p. sum_by f (publications_of p xs)) a (range_with_len (a + 1) n) in
    elim (cases_eq x.process a) as (λ _. sum_by_process f a (suc n) (x ∷ xs) ≡ f x + sum_by_process f a (suc n) xs) [
      | inl same ↦
          let here : sum_by f (publications_of a (x ∷ xs)) ≡ f x + sum_by f (publications_of a xs) =
          subst (λ p. sum_by f (publications_of p (x ∷ xs)) ≡ f x + sum_by f (publications_of p xs)) same
          (ap (sum_by f) (publications_of-own x xs) ∙ sum_by-cons f x (publications_of x.process xs)) in
          let rest = sum_by_process-outside f (a + 1) n x xs (inl (omega arith)) in
          omega (arith, first, second, here, rest)
      | inr other ↦
          let here = ap (sum_by f) (publications_of-other a x xs other) in
          let rest = sum_by_process-inside f (a + 1) n x xs (omega arith) (omega arith) in
          omega (arith, first, second, here, rest)
    ]

sum_by_process-nil : (f : Publication → ℕ) (a n : ℕ) → sum_by_process f a n [] ≡ 0
sum_by_process-nil f a zero = refl
sum_by_process-nil f a (suc n) =
    omega (
      arith,
      ap (sum_by f) (publications_of-nil a),
      sum_by_process-nil f (a + 1) n,
      sum_by-cons (λ p. sum_by f (publications_of p [])) a (range_with_len (a + 1) n),
    )

-- the sum over a list is the sum over the processes of the sums over their own publications
pub sum_by-sum_by_process : (f : Publication → ℕ) (n : ℕ) (xs : List Publication) → ArePublishedBy n xs
    → sum_by f xs ≡ sum_by_process f 0 n xs
sum_by-sum_by_process f n [] known = sym (sum_by_process-nil f 0 n)
sum_by-sum_by_process f n (x ∷ xs) known =
    let here : x.process < n = All-head (λ y. y.process < n) x xs known in
    omega (
      arith,
      sum_by-cons f x xs,
      sum_by-sum_by_process f n xs (All-tail (λ y. y.process < n) x xs known),
      sum_by_process-inside f 0 n x xs (omega arith) (omega arith),
    )

sum_by-one : (xs : List Publication) → sum_by (λ _. 1) xs ≡ length xs
sum_by-one [] = refl
sum_by-one (x ∷ xs) = omega (arith, sum_by-cons (λ (y : Publication). 1) x xs, sum_by-one xs)

-- the counts of all processes together are the length of the list
pub sum-counts : (n : ℕ) (xs : List Publication) → ArePublishedBy n xs → sum (counts n xs) ≡ length xs
unfolding counts
sum-counts n xs known =
    let range = range_with_len 0 n in
    let by_process : sum_by_process (λ _. 1) 0 n xs ≡ sum_by (λ p. count_of p xs) range =
    λ t. sum_by (λ p. sum_by-one (publications_of p xs) t) range in
    sum-map (λ p. count_of p xs) range
    ∙ (sym by_process ∙ (sym (sum_by-sum_by_process (λ _. 1) n xs known) ∙ sum_by-one xs))

-- a list is what stands before an element, that element, and what stands after it
split_at : (xs : List Publication) (m : ℕ) (d : Publication) → m < length xs
    → xs ≡ take m xs ++ get_or xs m d ∷ drop (m + 1) xs
split_at xs m d within = sym (take-append-drop m xs) ∙ ap (λ rest. take m xs ++ rest) (drop_more xs m d within)

-- one more element of a prefix is the process's: it counts one more
pub count_of-take_more_own : (process m : ℕ) (xs : List Publication) (d : Publication) → m < length xs
    → (get_or xs m d).process ≡ process → count_of process (take (m + 1) xs) ≡ count_of process (take m xs) + 1
count_of-take_more_own process m xs d within own =
    let x = get_or xs m d in
    let here : count_of process (take m xs ++ x ∷ []) ≡ count_of process (take m xs) + 1 =
    subst (λ p. count_of p (take m xs ++ x ∷ []) ≡ count_of p (take m xs) + 1) own (count_of-push_own (take m xs) x) in
    ap (count_of process) (take_more xs m d within) ∙ here

-- the publications of a process in a prefix are its first ones
pub publications_of-take : (process m : ℕ) (xs : List Publication)
    → publications_of process (take m xs) ≡ take (count_of process (take m xs)) (publications_of process xs)
publications_of-take process m xs =
    let parts = ap (publications_of process) (sym (take-append-drop m xs)) ∙ publications_of-append process (take m xs) (drop m xs) in
    sym (ap (take (count_of process (take m xs))) parts
    ∙ take_at (publications_of process (take m xs)) (publications_of process (drop m xs)) (count_of process (take m xs)) refl)

-- a process's publication at a position is the one with as many before it
pub get_or-publications_of : (process m : ℕ) (xs : List Publication) (d : Publication) → m < length xs
    → (get_or xs m d).process ≡ process
    → get_or (publications_of process xs) (count_of process (take m xs)) d ≡ get_or xs m d
get_or-publications_of process m xs d within own =
    let x = get_or xs m d in
    let before = publications_of process (take m xs) in
    let rest = publications_of process (drop (m + 1) xs) in
    let here : publications_of process (x ∷ drop (m + 1) xs) ≡ x ∷ rest =
    subst (λ p. publications_of p (x ∷ drop (m + 1) xs) ≡ x ∷ publications_of p (drop (m + 1) xs)) own (publications_of-own x (drop (m + 1) xs)) in
    let parts : publications_of process xs ≡ before ++ x ∷ rest =
    ap (publications_of process) (split_at xs m d within)
    ∙ (publications_of-append process (take m xs) (x ∷ drop (m + 1) xs) ∙ ap (λ ys. before ++ ys) here) in
    ap (λ ys. get_or ys (count_of process (take m xs)) d) parts ∙ get_or_at before x rest d (count_of process (take m xs)) refl

-- a position comes before the end of a prefix exactly where the prefix counts its publication
pub position-below : (process m k : ℕ) (xs : List Publication) (d : Publication) → m < length xs
    → (get_or xs m d).process ≡ process → m < k → count_of process (take m xs) < count_of process (take k xs)
position-below process m k xs d within own below =
    omega (arith, count_of-take_more_own process m xs d within own, count_of-take_mono process (m + 1) k xs (omega arith))

pub position-below_from_count : (process m k : ℕ) (xs : List Publication)
    → count_of process (take m xs) < count_of process (take k xs) → m < k
position-below_from_count process m k xs counted =
    elim (cases_lt m k) as (λ _. m < k) [
      | inl below ↦ below
      | inr above ↦ absurd (omega (arith, count_of-take_mono process k m xs above))
    ]

-- where a publication of a process stands, by how many of its process stand before it
pub record IsPosition (process i : ℕ) (xs : List Publication) (m : ℕ) : Type 0 where
  pub within : m < length xs
  pub own : (d : Publication) → (get_or xs m d).process ≡ process
  pub before : count_of process (take m xs) ≡ i

-- an own publication in cut counts one more, another's counts none
count_of-cons_own : (process : ℕ) (x : Publication) (xs : List Publication) → x.process ≡ process
    → count_of process (x ∷ xs) ≡ suc (count_of process xs)
count_of-cons_own process x xs own =
    subst (λ p. count_of p (x ∷ xs) ≡ suc (count_of p xs)) own (ap length (publications_of-own x xs))

count_of-cons_other : (process : ℕ) (x : Publication) (xs : List Publication) → (x.process ≡ process → ⊥)
    → count_of process (x ∷ xs) ≡ count_of process xs
count_of-cons_other process x xs other = ap length (publications_of-other process x xs other)

-- a position behind one more publication
IsPosition-cons_own : (process i : ℕ) (x : Publication) (xs : List Publication) (m : ℕ) → x.process ≡ process
    → IsPosition process i xs m → IsPosition process (suc i) (x ∷ xs) (suc m)
IsPosition-cons_own process i x xs m own rest = record {
  within = omega (arith, rest.within);
  own = rest.own;
  before = count_of-cons_own process x (take m xs) own ∙ ap suc rest.before;
}

IsPosition-cons_other : (process i : ℕ) (x : Publication) (xs : List Publication) (m : ℕ) → (x.process ≡ process → ⊥)
    → IsPosition process i xs m → IsPosition process i (x ∷ xs) (suc m)
IsPosition-cons_other process i x xs m other rest = record {
  within = omega (arith, rest.within);
  own = rest.own;
  before = count_of-cons_other process x (take m xs) other ∙ rest.before;
}

-- each publication of a process has its position
pub position_of : (process i : ℕ) (xs : List Publication) → i < count_of process xs → (m : ℕ) × IsPosition process i xs m
position_of process i [] within = absurd (omega (arith, ap length (publications_of-nil process)))
position_of process zero (x ∷ xs) within =
    elim (cases_eq x.process process) as (λ _. (m : ℕ) × IsPosition process zero (x ∷ xs) m) [
      | inl own ↦ (zero, record { within = omega arith; own = λ d. own; before = ap length (publications_of-nil process) })
      | inr other ↦
          let rest = position_of process zero xs (omega (arith, count_of-cons_other process x xs other)) in
          (suc rest.0, IsPosition-cons_other process zero x xs rest.0 other rest.1)
    ]
position_of process (suc i) (x ∷ xs) within =
    elim (cases_eq x.process process) as (λ _. (m : ℕ) × IsPosition process (suc i) (x ∷ xs) m) [
      | inl own ↦
          let rest = position_of process i xs (omega (arith, count_of-cons_own process x xs own)) in
          (suc rest.0, IsPosition-cons_own process i x xs rest.0 own rest.1)
      | inr other ↦
          let rest = position_of process (suc i) xs (omega (arith, count_of-cons_other process x xs other)) in
          (suc rest.0, IsPosition-cons_other process (suc i) x xs rest.0 other rest.1)
    ]

-- nothing counts 0 of each process
pub counts-nil : (n : ℕ) → counts n [] ≡ replicate n 0
counts-nil n =
    same_number_lists (counts n []) (replicate n 0) (length-counts n [] ∙ sym (length-replicate n 0))
    (λ k below. get_or-counts n [] k 0 (omega (arith, below, length-counts n [])) ∙ (ap length (publications_of-nil k) ∙ sym (get_or-zeros n k)))

pub count_of-nil : (p : ℕ) → count_of p [] ≡ 0
count_of-nil p = ap length (publications_of-nil p)

-- the publications of a process with one more
pub publications_of-push_own : (p : ℕ) (xs : List Publication) (x : Publication) → x.process ≡ p
    → publications_of p (xs ++ x ∷ []) ≡ publications_of p xs ++ x ∷ []
publications_of-push_own p xs x own =
    subst (λ t. publications_of t (xs ++ x ∷ []) ≡ publications_of t xs ++ x ∷ []) own
    (publications_of-append x.process xs (x ∷ [])
    ∙ ap (λ ys. publications_of x.process xs ++ ys) (publications_of-own x [] ∙ ap (λ ys. x ∷ ys) (publications_of-nil x.process)))

pub publications_of-push_other : (p : ℕ) (xs : List Publication) (x : Publication) → (x.process ≡ p → ⊥)
    → publications_of p (xs ++ x ∷ []) ≡ publications_of p xs
publications_of-push_other p xs x other =
    publications_of-append p xs (x ∷ [])
    ∙ (ap (λ ys. publications_of p xs ++ ys) (publications_of-other p x [] other ∙ publications_of-nil p) ∙ append-nil (publications_of p xs))
