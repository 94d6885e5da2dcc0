-- The keys of a closing's publications: a held cut counts those whose keys are at most its place.
use Rattle.std.proofs.Common.{◌≡◌, ℕ, ◌<◌, ◌≤◌, zero, suc, Bool, true, false, List, [], ◌∷◌, length, get_or, sum, map, filter, min, nat_lt, cond, sym, ap, subst, ◌∙◌, arith, inl, inr}
use Rattle.at_log.proofs.Prelude.{cases_Bool, lt-ltb, ltb-true, get_or-map, get_or_default, length-map, All-contains, Contains-get_or, sum_by-cons, Contains, fold, Covers, BookTerms, sum-Covers-le, place, ClosingTerms, log_lengths, log_of, AreChained, held_cuts, publication_key}

-- the least of a bound and some numbers is at most the bound
fold-min-le : (bound : ℕ) (xs : List ℕ) → fold min bound xs ≤ bound
fold-min-le bound [] = omega arith
fold-min-le bound (x ∷ xs) = omega (arith, fold-min-le (min bound x) xs)

-- whether a view counts a publication
abbrev counts_it : ℕ → ℕ → List ℕ → Bool
counts_it process number view = nat_lt number (get_or view process 0)

-- the least place of the views that count it
abbrev least_place : ℕ → ℕ → ℕ → List (List ℕ) → ℕ
least_place process number bound views = fold min bound (map place (filter (counts_it process number) views))

least_place-le_bound : (process number bound : ℕ) (views : List (List ℕ)) → least_place process number bound views ≤ bound
least_place-le_bound process number bound views = fold-min-le bound (map place (filter (counts_it process number) views))

-- a view that doesn't count it changes nothing, and one that does brings its place
least_place-cons_other : (process number bound : ℕ) (view : List ℕ) (views : List (List ℕ)) → counts_it process number view ≡ false
    → least_place process number bound (view ∷ views) ≡ least_place process number bound views
least_place-cons_other process number bound view views out_of_it =
    ap (λ t. fold min bound (map place (cond t (view ∷ filter (counts_it process number) views) (filter (counts_it process number) views)))) out_of_it

least_place-cons_counted : (process number bound : ℕ) (view : List ℕ) (views : List (List ℕ)) → counts_it process number view ≡ true
    → least_place process number bound (view ∷ views) ≡ least_place process number (min bound (place view)) views
least_place-cons_counted process number bound view views in_it =
    ap (λ t. fold min bound (map place (cond t (view ∷ filter (counts_it process number) views) (filter (counts_it process number) views)))) in_it

-- it is at most the place of each view that counts it
least_place-le : (process number bound : ℕ) (views : List (List ℕ)) (i : ℕ) → i < length views
    → counts_it process number (get_or views i []) ≡ true → least_place process number bound views ≤ place (get_or views i [])
least_place-le process number bound [] i within counted = absurd (omega arith)
least_place-le process number bound (view ∷ views) zero within counted =
    omega (arith, least_place-cons_counted process number bound view views counted, least_place-le_bound process number (min bound (place view)) views)
least_place-le process number bound (view ∷ views) (suc i) within counted =
    elim (cases_Bool (counts_it process number view)) as (λ _. least_place process number bound (view ∷ views) ≤ place (get_or views i [])) [
      | inl in_it ↦ omega (
        arith,
        least_place-cons_counted process number bound view views in_it,
        least_place-le process number (min bound (place view)) views i (omega arith) counted,
      )
      | inr out_of_it ↦ omega (
        arith,
        least_place-cons_other process number bound view views out_of_it,
        least_place-le process number bound views i (omega arith) counted,
      )
    ]

-- it is above what the bound and the place of each view that counts it are above
least_place-above : (process number bound : ℕ) (views : List (List ℕ)) (k : ℕ) → k < bound
    → ((i : ℕ) → i < length views → counts_it process number (get_or views i []) ≡ true → k < place (get_or views i []))
    → k < least_place process number bound views
least_place-above process number bound [] k below each = below
least_place-above process number bound (view ∷ views) k below each =
    let rest : (i : ℕ) → i < length views → counts_it process number (get_or views i []) ≡ true → k < place (get_or views i []) =
    λ i within counted. each (suc i) (omega arith) counted in
    elim (cases_Bool (counts_it process number view)) as (λ _. k < least_place process number bound (view ∷ views)) [
      | inl in_it ↦ omega (
        arith,
        least_place-cons_counted process number bound view views in_it,
        least_place-above process number (min bound (place view)) views k (omega (arith, below, each zero (omega arith) in_it)) rest,
      )
      | inr out_of_it ↦ omega (arith, least_place-cons_other process number bound view views out_of_it, least_place-above process number bound views k below rest)
    ]

-- of two lists of counts the one that covers the other and has more somewhere has the larger sum
sum-Covers-lt : (view other : List ℕ) (p : ℕ) → length view ≡ length other → Covers view other → p < length view
    → get_or other p 0 < get_or view p 0 → sum other < sum view
sum-Covers-lt [] other p same covers within more = absurd (omega arith)
sum-Covers-lt (a ∷ view) [] p same covers within more = absurd (omega arith)
sum-Covers-lt (a ∷ view) (b ∷ other) zero same covers within more =
    let rest = sum-Covers-le view other (omega arith) (λ q inside. covers (suc q) (omega arith)) in
    omega (arith, rest, more, sum_by-cons (λ n. n) a view, sum_by-cons (λ n. n) b other)
sum-Covers-lt (a ∷ view) (b ∷ other) (suc p) same covers within more =
    let rest = sum-Covers-lt view other p (omega arith) (λ q inside. covers (suc q) (omega arith)) (omega arith) more in
    omega (arith, rest, covers 0 (omega arith), sum_by-cons (λ n. n) a view, sum_by-cons (λ n. n) b other)

-- a held cut counts what has a key of at most its place
pub publication_key-le : (c : ClosingTerms) (view : List ℕ) (process number : ℕ) → Contains (held_cuts c) view
    → number < get_or view process 0 → publication_key c process number ≤ place view
publication_key-le c view process number held counted =
    let k = held.0 in
    let is : get_or (held_cuts c) k [] ≡ view = get_or_default (held_cuts c) k [] view held.1 ∙ held.2 in
    subst (λ v. publication_key c process number ≤ place v) is
    (least_place-le process number (sum (log_lengths c)) (held_cuts c) k held.1
    (ap (λ v. counts_it process number v) is ∙ lt-ltb number (get_or view process 0) counted))

-- the length of a process's log
pub get_or-log_lengths : (c : ClosingTerms) (process : ℕ) → process < length c.logs → get_or (log_lengths c) process 0 ≡ length (log_of c process)
get_or-log_lengths c process within = get_or-map length c.logs process [] 0 within

-- and what it doesn't count has a larger one
pub publication_key-above : (b : BookTerms) (c : ClosingTerms) (view : List ℕ) (process number : ℕ) → AreChained b c
    → length c.logs ≡ b.processes → Contains (held_cuts c) view → process < b.processes → get_or view process 0 ≤ number
    → number < length (log_of c process) → place view < publication_key c process number
publication_key-above b c view process number chained sized held known uncounted within =
    let length_of : (v : List ℕ) → Contains (held_cuts c) v → length v ≡ b.processes =
    λ v there. All-contains (λ u. length u ≡ b.processes) (held_cuts c) v chained.sized there in
    let logs : length (log_lengths c) ≡ b.processes = length-map c.logs length ∙ sized in
    least_place-above process number (sum (log_lengths c)) (held_cuts c) (place view)
    (sum-Covers-lt (log_lengths c) view process (logs ∙ sym (length_of view held)) (chained.ends view held) (omega (arith, logs))
    (omega (arith, get_or-log_lengths c process (omega arith))))
    (λ i inside counted.
    let w = get_or (held_cuts c) i [] in
    let here : Contains (held_cuts c) w = (i, inside, get_or_default (held_cuts c) i w [] inside) in
    elim (chained.chain view w held here) as (λ _. place view < place w) [
      | inl below ↦ absurd (omega (arith, below process (omega (arith, length_of view held)), ltb-true number (get_or w process 0) counted))
      | inr above ↦ sum-Covers-lt w view process (length_of w here ∙ sym (length_of view held)) above (omega (arith, length_of w here))
          (omega (arith, ltb-true number (get_or w process 0) counted))
    ])

-- a later publication has no smaller key
least_place-mono : (process number later bound limit : ℕ) (views : List (List ℕ)) → number ≤ later → bound ≤ limit
    → least_place process number bound views ≤ least_place process later limit views
least_place-mono process number later bound limit [] before below = below
least_place-mono process number later bound limit (view ∷ views) before below =
    elim (cases_Bool (counts_it process later view)) as (λ _. least_place process number bound (view ∷ views) ≤ least_place process later limit (view ∷ views)) [
      | inl in_it ↦
          let first = lt-ltb number (get_or view process 0) (omega (arith, ltb-true later (get_or view process 0) in_it)) in
          omega (
            arith,
            least_place-cons_counted process number bound view views first,
            least_place-cons_counted process later limit view views in_it,
            least_place-mono process number later (min bound (place view)) (min limit (place view)) views before (omega (arith, below)),
          )
      | inr out_of_it ↦
          elim (cases_Bool (counts_it process number view)) as (λ _. least_place process number bound (view ∷ views) ≤ least_place process later limit (view ∷ views)) [
            | inl first ↦ omega (
              arith,
              least_place-cons_counted process number bound view views first,
              least_place-cons_other process later limit view views out_of_it,
              least_place-mono process number later (min bound (place view)) limit views before (omega (arith, below)),
            )
            | inr neither ↦ omega (
              arith,
              least_place-cons_other process number bound view views neither,
              least_place-cons_other process later limit view views out_of_it,
              least_place-mono process number later bound limit views before below,
            )
          ]
    ]

pub publication_key-mono : (c : ClosingTerms) (process number later : ℕ) → number ≤ later
    → publication_key c process number ≤ publication_key c process later
publication_key-mono c process number later before =
    least_place-mono process number later (sum (log_lengths c)) (sum (log_lengths c)) (held_cuts c) before (omega arith)

-- no key is above the length of all logs
pub publication_key-le_all : (c : ClosingTerms) (process number : ℕ) → publication_key c process number ≤ sum (log_lengths c)
publication_key-le_all c process number = least_place-le_bound process number (sum (log_lengths c)) (held_cuts c)

-- a key is at least what the bound and the place of each held cut that counts the publication are at least
pub publication_key-at_least : (c : ClosingTerms) (process number k : ℕ) → k ≤ sum (log_lengths c)
    → ((view : List ℕ) → Contains (held_cuts c) view → number < get_or view process 0 → k ≤ place view) → k ≤ publication_key c process number
publication_key-at_least c process number zero below each = omega arith
publication_key-at_least c process number (suc k) below each =
    omega (
      arith,
      least_place-above process number (sum (log_lengths c)) (held_cuts c) k (omega (arith, below))
          (λ i within counted.
          let view = get_or (held_cuts c) i [] in
          omega (arith, each view (Contains-get_or (held_cuts c) i [] within) (ltb-true number (get_or view process 0) counted))),
    )
