-- Rounds of a list of publications and own records: sums that count each round once, and what stands in a longer list.
use Rattle.std.proofs.Common.{◌≡◌, ℕ, ◌+◌, ◌-◌, ◌<◌, ◌≤◌, ◌==◌, ◌&&◌, ◌||◌, zero, suc, eqb, ltb, Bool, true, false, cond, List, [], ◌∷◌, ◌++◌, length, get_or, take, refl, sym, ap, subst, ◌∙◌, arith, inl, inr, ◌⊎◌}
use Rattle.at_history.proofs.Prelude.{cases_Bool, cases_eq, cases_lt, eq-eqb, ne_eqb, le-ltb, ltb-false, nat_tests, take_more, take_all, list_any-append, list_any_none, fold_push, sum_by_push, length-filter, sum_by-le-sum_by, sum_by-append, count_by, list_any, sum_by, Decision, TargetPair, publication_at, is_round, is_round_on, is_own, no_publication, IsPrefix, publications_of, count_of, firsts, repeats, rounds, with_first, owns_of, Entry, Own, Round, Publication}
use Rattle.at_history.proofs.Laws.Counts.{count_of-append}
use Rattle.at_history.proofs.Laws.Prefixes.{IsPrefix-length, IsPrefix-take, take-IsPrefix}

-- one more publication that repeats a round
pub firsts-repeat : (xs : List Publication) (x : Publication) → repeats x (firsts xs) ≡ true → firsts (xs ++ x ∷ []) ≡ firsts xs
unfolding firsts
firsts-repeat xs x again = fold_push with_first [] xs x ∙ ap (λ t. cond t (firsts xs) (firsts xs ++ x ∷ [])) again

-- a sum that counts each round once, with one more publication
pub sum_by-firsts_repeat : (f : Publication → ℕ) (xs : List Publication) (x : Publication) → repeats x (firsts xs) ≡ true
    → sum_by f (firsts (xs ++ x ∷ [])) ≡ sum_by f (firsts xs)
sum_by-firsts_repeat f xs x again = ap (sum_by f) (firsts-repeat xs x again)

-- and one that doesn't
pub firsts-new : (xs : List Publication) (x : Publication) → repeats x (firsts xs) ≡ false
    → firsts (xs ++ x ∷ []) ≡ firsts xs ++ x ∷ []
unfolding firsts
firsts-new xs x new = fold_push with_first [] xs x ∙ ap (λ t. cond t (firsts xs) (firsts xs ++ x ∷ [])) new

pub sum_by-firsts_new : (f : Publication → ℕ) (xs : List Publication) (x : Publication) → repeats x (firsts xs) ≡ false
    → sum_by f (firsts (xs ++ x ∷ [])) ≡ sum_by f (firsts xs) + f x
sum_by-firsts_new f xs x new = ap (sum_by f) (firsts-new xs x new) ∙ sum_by_push f (firsts xs) x

pub sum_by-firsts-le : (f : Publication → ℕ) (xs : List Publication) (x : Publication)
    → sum_by f (firsts xs) ≤ sum_by f (firsts (xs ++ x ∷ []))
sum_by-firsts-le f xs x =
    elim (cases_Bool (repeats x (firsts xs))) as (λ _. sum_by f (firsts xs) ≤ sum_by f (firsts (xs ++ x ∷ []))) [
      | inl again ↦ omega (arith, sum_by-firsts_repeat f xs x again)
      | inr new ↦ omega (arith, sum_by-firsts_new f xs x new)
    ]

-- such a sum doesn't fall along the prefixes
pub sum_by-firsts-take_more : (f : Publication → ℕ) (xs : List Publication) (m : ℕ)
    → sum_by f (firsts (take m xs)) ≤ sum_by f (firsts (take (m + 1) xs))
sum_by-firsts-take_more f xs m =
    elim (cases_lt m (length xs)) as (λ _. sum_by f (firsts (take m xs)) ≤ sum_by f (firsts (take (m + 1) xs))) [
      | inl below ↦
          let more = ap (λ t. sum_by f (firsts t)) (take_more xs m no_publication below) in
          omega (arith, more, sum_by-firsts-le f (take m xs) (get_or xs m no_publication))
      | inr above ↦
          let here = ap (λ t. sum_by f (firsts t)) (take_all m xs above) in
          let there = ap (λ t. sum_by f (firsts t)) (take_all (m + 1) xs (omega arith)) in
          omega (arith, here, there)
    ]

sum_by-firsts-take_add : (f : Publication → ℕ) (xs : List Publication) (m n : ℕ)
    → sum_by f (firsts (take m xs)) ≤ sum_by f (firsts (take (m + n) xs))
sum_by-firsts-take_add f xs m zero =
    let e : m + zero ≡ m = omega arith in omega (arith, ap (λ k. sum_by f (firsts (take k xs))) e)
sum_by-firsts-take_add f xs m (suc n) =
    let e : m + suc n ≡ m + n + 1 = omega arith in
    omega (arith, sum_by-firsts-take_add f xs m n, sum_by-firsts-take_more f xs (m + n), ap (λ k. sum_by f (firsts (take k xs))) e)

pub sum_by-firsts-take_mono : (f : Publication → ℕ) (xs : List Publication) (m k : ℕ) → m ≤ k
    → sum_by f (firsts (take m xs)) ≤ sum_by f (firsts (take k xs))
sum_by-firsts-take_mono f xs m k within =
    let e : m + (k - m) ≡ k = omega arith in
    omega (arith, sum_by-firsts-take_add f xs m (k - m), ap (λ t. sum_by f (firsts (take t xs))) e)

-- 1 where a test passes
abbrev pub one_if : Bool → ℕ
one_if t = cond t 1 0

-- no more rounds stand in a shorter prefix
pub rounds-take_mono : (a m k : ℕ) (xs : List Publication) → m ≤ k → rounds a (take m xs) ≤ rounds a (take k xs)
rounds-take_mono a m k xs within = sum_by-firsts-take_mono (λ y. one_if (is_round_on a y.entry)) xs m k within

-- no more rounds stand in a prefix
pub rounds-IsPrefix : (a : ℕ) (xs ys : List Publication) → IsPrefix xs ys → rounds a xs ≤ rounds a ys
rounds-IsPrefix a xs ys before =
    omega (
      arith,
      ap (rounds a) (take-IsPrefix xs ys before),
      ap (rounds a) (take_all (length ys) ys (omega arith)),
      rounds-take_mono a (length xs) (length ys) ys (IsPrefix-length xs ys before),
    )

pub rounds-take-le : (a m : ℕ) (xs : List Publication) → rounds a (take m xs) ≤ rounds a xs
rounds-take-le a m xs = rounds-IsPrefix a (take m xs) xs (IsPrefix-take m xs)

pub firsts-nil : firsts [] ≡ []
unfolding firsts
firsts-nil = refl

-- a publication that repeats a round or has no weight adds nothing
pub sum_by-firsts_nothing : (f : Publication → ℕ) (xs : List Publication) (x : Publication) → (repeats x (firsts xs) ≡ true) ⊎ (f x ≡ 0)
    → sum_by f (firsts (xs ++ x ∷ [])) ≡ sum_by f (firsts xs)
sum_by-firsts_nothing f xs x (inl again) = sum_by-firsts_repeat f xs x again
sum_by-firsts_nothing f xs x (inr light) =
    elim (cases_Bool (repeats x (firsts xs))) as (λ _. sum_by f (firsts (xs ++ x ∷ [])) ≡ sum_by f (firsts xs)) [
      | inl again ↦ sum_by-firsts_repeat f xs x again
      | inr new ↦ omega (arith, sum_by-firsts_new f xs x new)
    ]

-- between two prefixes nothing is added
sum_by-firsts-take_same_add : (f : Publication → ℕ) (xs : List Publication) (m n : ℕ) → m + n ≤ length xs
    → ((i : ℕ) → m ≤ i → i < m + n → (repeats (publication_at xs i) (firsts (take i xs)) ≡ true) ⊎ (f (publication_at xs i) ≡ 0))
    → sum_by f (firsts (take (m + n) xs)) ≡ sum_by f (firsts (take m xs))
sum_by-firsts-take_same_add f xs m zero within nothing =
    let e : m + zero ≡ m = omega arith in omega (arith, ap (λ k. sum_by f (firsts (take k xs))) e)
sum_by-firsts-take_same_add f xs m (suc n) within nothing =
    let e : m + suc n ≡ m + n + 1 = omega arith in
    let more = ap (λ t. sum_by f (firsts t)) (take_more xs (m + n) no_publication (omega arith)) in
    let here = sum_by-firsts_nothing f (take (m + n) xs) (publication_at xs (m + n)) (nothing (m + n) (omega arith) (omega arith)) in
    let rest = sum_by-firsts-take_same_add f xs m n (omega arith) (λ i above below. nothing i above (omega arith)) in
    omega (arith, ap (λ k. sum_by f (firsts (take k xs))) e, more, here, rest)

pub sum_by-firsts-take_same : (f : Publication → ℕ) (xs : List Publication) (m k : ℕ) → m ≤ k → k ≤ length xs
    → ((i : ℕ) → m ≤ i → i < k → (repeats (publication_at xs i) (firsts (take i xs)) ≡ true) ⊎ (f (publication_at xs i) ≡ 0))
    → sum_by f (firsts (take k xs)) ≡ sum_by f (firsts (take m xs))
sum_by-firsts-take_same f xs m k before within nothing =
    let e : m + (k - m) ≡ k = omega arith in
    let same = sum_by-firsts-take_same_add f xs m (k - m) (omega arith) (λ i above below. nothing i above (omega arith)) in
    omega (arith, same, ap (λ t. sum_by f (firsts (take t xs))) e)

-- a publication of these parts
abbrev pub published : ℕ → List ℕ → Entry → Publication
published p v e = record { process = p; view = v; entry = e }

-- whether a list has a record of a round
abbrev pub has_round : ℕ → ℕ → List Publication → Bool
has_round a r list = list_any (λ y. is_round a r y.entry) list

list_any_push : (p : Publication → Bool) (ys : List Publication) (y : Publication) → list_any p (ys ++ y ∷ []) ≡ (list_any p ys || p y)
list_any_push p ys y = list_any-append p ys (y ∷ []) ∙ ap (λ t. list_any p ys || t) (or_right_false (p y))
  where
    or_right_false : (t : Bool) → (t || false) ≡ t
    or_right_false true = refl
    or_right_false false = refl

list_any_never : (ys : List Publication) → list_any (λ (y : Publication). false) ys ≡ false
list_any_never ys = list_any_none (λ (y : Publication). false) ys (λ k d within. refl)

-- an own record repeats nothing
pub repeats-own : (p : ℕ) (v : List ℕ) (from : ℕ) (targets : List TargetPair) (ys : List Publication)
    → repeats (published p v (Own from targets)) ys ≡ false
repeats-own p v from targets ys = list_any_never ys

-- the rounds of an account so far are all numbers below their count
pub record IsInitial (a : ℕ) (xs : List Publication) : Type 0 where
  pub has : (r : ℕ) → has_round a r (firsts xs) ≡ ltb r (rounds a xs)

pub IsInitial-nil : (a : ℕ) → IsInitial a []
unfolding firsts
IsInitial-nil a = record { has = λ r. sym (le-ltb r 0 (omega arith)) }

-- a publication that is no new round of the account
IsInitial-repeat : (a : ℕ) (xs : List Publication) (x : Publication) → IsInitial a xs → repeats x (firsts xs) ≡ true
    → IsInitial a (xs ++ x ∷ [])
IsInitial-repeat a xs x initial again = record {
  has = λ r. ap (has_round a r) (firsts-repeat xs x again)
      ∙ (initial.has r ∙ ap (λ ys. ltb r (count_by (λ y. is_round_on a y.entry) ys)) (sym (firsts-repeat xs x again)));
}

IsInitial-other : (a : ℕ) (xs : List Publication) (x : Publication) → IsInitial a xs → repeats x (firsts xs) ≡ false
    → ((r : ℕ) → is_round a r x.entry ≡ false) → is_round_on a x.entry ≡ false → IsInitial a (xs ++ x ∷ [])
IsInitial-other a xs x initial new other off =
    let same : rounds a (xs ++ x ∷ []) ≡ rounds a xs =
    omega (arith, sum_by-firsts_new (λ y. one_if (is_round_on a y.entry)) xs x new, ap one_if off) in
    record {
      has = λ r. ap (has_round a r) (firsts-new xs x new)
          ∙ (list_any_push (λ y. is_round a r y.entry) (firsts xs) x
          ∙ (ap (λ t. has_round a r (firsts xs) || t) (other r) ∙ (or_false (has_round a r (firsts xs)) ∙ (initial.has r ∙ ap (ltb r) (sym same)))));
    }
  where
    or_false : (t : Bool) → (t || false) ≡ t
    or_false true = refl
    or_false false = refl

-- a round's record repeats exactly where its round is below the count
pub repeats-round : (p : ℕ) (v : List ℕ) (a r : ℕ) (d : Decision) (targets : List TargetPair) (xs : List Publication) → IsInitial a xs
    → repeats (published p v (Round a r d targets)) (firsts xs) ≡ ltb r (rounds a xs)
repeats-round p v a r d targets xs initial = initial.has r

-- the next round of the account
pub rounds-push_next : (p : ℕ) (v : List ℕ) (a r : ℕ) (d : Decision) (targets : List TargetPair) (xs : List Publication) → IsInitial a xs
    → rounds a xs ≡ r → rounds a (xs ++ published p v (Round a r d targets) ∷ []) ≡ rounds a xs + 1
rounds-push_next p v a r d targets xs initial next =
    let x = published p v (Round a r d targets) in
    let new : repeats x (firsts xs) ≡ false = repeats-round p v a r d targets xs initial ∙ le-ltb r (rounds a xs) (omega arith) in
    let here : one_if (a == a) ≡ one_if true = ap one_if (eq-eqb a a refl) in
    omega (arith, sum_by-firsts_new (λ y. one_if (is_round_on a y.entry)) xs x new, here)

IsInitial-next : (p : ℕ) (v : List ℕ) (a r : ℕ) (d : Decision) (targets : List TargetPair) (xs : List Publication) → IsInitial a xs
    → rounds a xs ≡ r → IsInitial a (xs ++ published p v (Round a r d targets) ∷ [])
IsInitial-next p v a r d targets xs initial next =
    let x = published p v (Round a r d targets) in
    let new : repeats x (firsts xs) ≡ false = repeats-round p v a r d targets xs initial ∙ le-ltb r (rounds a xs) (omega arith) in
    let more = rounds-push_next p v a r d targets xs initial next in
    record {
      has = λ k. ap (has_round a k) (firsts-new xs x new)
          ∙ (list_any_push (λ y. is_round a k y.entry) (firsts xs) x
          ∙ (ap (λ t. t || ((a == a) && (r == k))) (initial.has k) ∙ one_more k a r (rounds a xs) (rounds a (xs ++ x ∷ [])) next more));
    }
  where
    one_more : (k a r n more : ℕ) → n ≡ r → more ≡ n + 1 → (ltb k n || (eqb a a && eqb r k)) ≡ ltb k more
    one_more k a r n more next e = rw (eq-eqb a a refl) (grind (arith, nat_tests))

-- where a record's round is at most the count, the rounds stay all numbers below it
abbrev pub IsNextAtMost : List Publication → Entry → Type 0
IsNextAtMost xs (Own from targets) = Unit {0}
IsNextAtMost xs (Round a r d targets) = r ≤ rounds a xs

pub IsInitial-push : (c : ℕ) (xs : List Publication) (p : ℕ) (v : List ℕ) (e : Entry) → ((a : ℕ) → IsInitial a xs) → IsNextAtMost xs e
    → IsInitial c (xs ++ published p v e ∷ [])
IsInitial-push c xs p v (Own from targets) initial next =
    IsInitial-other c xs (published p v (Own from targets)) (initial c) (list_any_never (firsts xs)) (λ r. refl) refl
IsInitial-push c xs p v (Round a r d targets) initial next =
    let x = published p v (Round a r d targets) in
    elim (cases_Bool (repeats x (firsts xs))) as (λ _. IsInitial c (xs ++ x ∷ [])) [
      | inl again ↦ IsInitial-repeat c xs x (initial c) again
      | inr new ↦
          elim (cases_eq a c) as (λ _. IsInitial c (xs ++ x ∷ [])) [
            | inl same ↦
                let at : rounds a xs ≡ r = omega (arith, next, ltb-false r (rounds a xs) (sym (repeats-round p v a r d targets xs (initial a)) ∙ new)) in
                subst (λ t. IsInitial t (xs ++ x ∷ [])) same (IsInitial-next p v a r d targets xs (initial a) at)
            | inr apart ↦ IsInitial-other c xs x (initial c) new (λ k. ap (λ t. t && (r == k)) (ne_eqb a c apart)) (ne_eqb a c apart)
          ]
    ]

-- own records are publications of the process
pub owns_of-le : (p : ℕ) (xs : List Publication) → owns_of p xs ≤ count_of p xs
unfolding publications_of
owns_of-le p xs =
    omega (
      arith,
      length-filter (λ x. x.process == p) xs,
      sum_by-le-sum_by (λ x. one_if ((x.process == p) && is_own x.entry)) (λ x. one_if (x.process == p)) xs (λ x. one_of_both (x.process == p) (is_own x.entry)),
    )
  where
    one_of_both : (t u : Bool) → one_if (t && u) ≤ one_if t
    one_of_both true true = omega arith
    one_of_both true false = omega arith
    one_of_both false u = omega arith

-- a list that has all of a process's publications has all its own records
pub owns_of-IsPrefix : (p : ℕ) (xs ys : List Publication) → IsPrefix xs ys → count_of p xs ≡ count_of p ys → owns_of p ys ≡ owns_of p xs
owns_of-IsPrefix p xs ys (more, e) same =
    let test : Publication → ℕ = λ x. one_if ((x.process == p) && is_own x.entry) in
    omega (arith, ap (owns_of p) e, sum_by-append test xs more, owns_of-le p more, ap (count_of p) e, count_of-append p xs more)
