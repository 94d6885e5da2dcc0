-- Two lists with the same records of each process: what they and the prefixes of their common cuts have in common.
use Rattle.std.proofs.Common.{◌≡◌, ℕ, ◌+◌, ◌<◌, ◌≤◌, ◌==◌, zero, suc, Bool, true, List, [], ◌∷◌, length, get_or, take, refl, sym, ap, subst, ◌∙◌, arith, inl, inr}
use Rattle.at_log.proofs.Prelude.{and_parts, cases_lt, eqb-true, get_or_default, All-take, All, list_any, sum_by, count_of-take-le, count_of-take_more_own, get_or-publications_of, position_of, publications_of-nil, publications_of-other, publications_of-take, get_or-IsCut, ArePublishedBy-take, sum_by-firsts-same, HasSameRecords, IsShuffle-HasSameRecords, length-IsShuffle, list_any-IsShuffle, publication_at, is_same_round, IsCut, place, prefix_of, AgreeOnRound, ArePublishedBy, count_of, no_publication, publications_of, firsts, Entry, Own, Round, Publication}

-- both lists have the same records of each process
pub record AreTwins (n : ℕ) (xs ys : List Publication) : Type 0 where
  pub known : ArePublishedBy n xs
  pub known_too : ArePublishedBy n ys
  pub same : HasSameRecords xs ys

-- the view is a cut of both
pub record IsCommonCut (n : ℕ) (xs ys : List Publication) (view : List ℕ) : Type 0 where
  pub one : IsCut n view xs
  pub other : IsCut n view ys

-- a process that none of the records is of has none
pub publications_of-beyond : (n p : ℕ) (xs : List Publication) → n ≤ p → ArePublishedBy n xs → publications_of p xs ≡ []
publications_of-beyond n p [] beyond known = publications_of-nil p
publications_of-beyond n p (x ∷ xs) beyond known =
    let here : x.process < n = known zero x (omega arith) in
    publications_of-other p x xs (λ e. omega (arith, e, here, beyond))
    ∙ publications_of-beyond n p xs beyond (λ i d within. known (suc i) d (omega arith))

-- a process's records in the prefix of a cut are those that the cut counts
publications_of-cut : (n p : ℕ) (view : List ℕ) (xs : List Publication) → IsCut n view xs → p < n
    → publications_of p (prefix_of view xs) ≡ take (get_or view p 0) (publications_of p xs)
publications_of-cut n p view xs cut within =
    publications_of-take p (place view) xs ∙ ap (λ k. take k (publications_of p xs)) (sym (get_or-IsCut n view xs p cut within))

pub HasSameRecords-cut : (n : ℕ) (view : List ℕ) (xs ys : List Publication) → AreTwins n xs ys → IsCommonCut n xs ys view
    → HasSameRecords (prefix_of view xs) (prefix_of view ys)
HasSameRecords-cut n view xs ys twins cut p =
    elim (cases_lt p n) as (λ _. publications_of p (prefix_of view xs) ≡ publications_of p (prefix_of view ys)) [
      | inl known ↦
          publications_of-cut n p view xs cut.one known
          ∙ (ap (take (get_or view p 0)) (twins.same p) ∙ sym (publications_of-cut n p view ys cut.other known))
      | inr beyond ↦
          publications_of-beyond n p (prefix_of view xs) beyond (ArePublishedBy-take n (place view) xs twins.known)
          ∙ sym (publications_of-beyond n p (prefix_of view ys) beyond (ArePublishedBy-take n (place view) ys twins.known_too))
    ]

-- the record stands somewhere in the list
abbrev pub StandsIn : List Publication → Publication → Type 0
StandsIn list x = (m : ℕ) × (m < length list) × (publication_at list m ≡ x)

-- a record of a process stands where so many of its process stand before it
pub StandsIn-publications_of : (p i : ℕ) (list : List Publication) → i < count_of p list
    → (m : ℕ) × (m < length list) × (publication_at list m ≡ publication_at (publications_of p list) i) × ((publication_at list m).process ≡ p)
    × (count_of p (take m list) ≡ i)
StandsIn-publications_of p i list within =
    let found = position_of p i list within in
    let at = found.1 in (
      found.0,
      at.within,
      sym (get_or-publications_of p found.0 list no_publication at.within (at.own no_publication)) ∙ ap (publication_at (publications_of p list)) at.before,
      at.own no_publication,
      at.before,
    )

-- each record of one list stands in the other
pub StandsIn-same : (xs ys : List Publication) → HasSameRecords xs ys → (m : ℕ) → m < length xs → StandsIn ys (publication_at xs m)
StandsIn-same xs ys same m within =
    let p = (publication_at xs m).process in
    let i = count_of p (take m xs) in
    let inside : i < count_of p xs = omega (arith, count_of-take_more_own p m xs no_publication within refl, count_of-take-le p (m + 1) xs) in
    let found = StandsIn-publications_of p i ys (omega (arith, inside, ap length (same p))) in (
      found.0,
      found.1,
      found.2 ∙ (ap (λ (t : List Publication). publication_at t i) (sym (same p)) ∙ get_or-publications_of p m xs no_publication within refl),
    )

pub All-StandsIn : (xs ys : List Publication) → HasSameRecords xs ys → All (StandsIn xs) ys
All-StandsIn xs ys same m d within =
    subst (StandsIn xs) (get_or_default ys m no_publication d within) (StandsIn-same ys xs (λ p. sym (same p)) m within)

-- records of one round of one account agree
abbrev pub AreAgreed : List Publication → Type 0
AreAgreed list = (m k : ℕ) → m < length list → k < length list → AgreeOnRound (publication_at list m).entry (publication_at list k).entry

-- so that they are the same entry
same_entry : (d e : Entry) → AgreeOnRound d e → is_same_round d e ≡ true → d ≡ e
same_entry (Own from targets) e agree same = cc same
same_entry (Round a r d targets) (Own from aims) agree same = cc same
same_entry (Round a r d targets) (Round c k f aims) agree same =
    let parts = and_parts (c == a) (k == r) same in
    let account : a ≡ c = sym (eqb-true c a parts.0) in
    let round : r ≡ k = sym (eqb-true k r parts.1) in
    let one = agree account round in
    λ t. Round (account t) (round t) (one.0 t) (one.1 t)

-- a sum over the entries that counts each round once
pub sum_by-same_records : (f : Entry → ℕ) (all xs ys : List Publication) → AreAgreed all → HasSameRecords xs ys → All (StandsIn all) xs → All (StandsIn all) ys
    → sum_by (λ x. f x.entry) (firsts xs) ≡ sum_by (λ x. f x.entry) (firsts ys)
sum_by-same_records f all xs ys agreed same one other =
    sum_by-firsts-same (StandsIn all) (λ x. f x.entry)
    (λ x y here there round.
    let agree : AgreeOnRound x.entry y.entry =
    subst (λ (z : Publication). AgreeOnRound x.entry z.entry) there.2
    (subst (λ (z : Publication). AgreeOnRound z.entry (publication_at all there.0).entry) here.2 (agreed here.0 there.0 here.1 there.1)) in
    ap f (same_entry x.entry y.entry agree round))
    xs ys same one other

module _ (n : ℕ) (xs ys : List Publication) (twins : AreTwins n xs ys) where
  pub length-twins : length xs ≡ length ys
  length-twins = length-IsShuffle xs ys (IsShuffle-HasSameRecords xs ys twins.same)

  -- a test of some record
  pub list_any-cut : (g : Publication → Bool) (view : List ℕ) → IsCommonCut n xs ys view → list_any g (prefix_of view xs) ≡ list_any g (prefix_of view ys)
  list_any-cut g view cut =
      list_any-IsShuffle g (prefix_of view xs) (prefix_of view ys)
      (IsShuffle-HasSameRecords (prefix_of view xs) (prefix_of view ys) (HasSameRecords-cut n view xs ys twins cut))

  -- a sum that counts each round once, over all and over the prefix of a common cut
  pub sum_by-twins : (f : Entry → ℕ) → AreAgreed xs → sum_by (λ x. f x.entry) (firsts xs) ≡ sum_by (λ x. f x.entry) (firsts ys)
  sum_by-twins f agreed = sum_by-same_records f xs xs ys agreed twins.same (All-StandsIn xs xs (λ p. refl)) (All-StandsIn xs ys twins.same)

  pub sum_by-cut : (f : Entry → ℕ) (view : List ℕ) → AreAgreed xs → IsCommonCut n xs ys view
      → sum_by (λ x. f x.entry) (firsts (prefix_of view xs)) ≡ sum_by (λ x. f x.entry) (firsts (prefix_of view ys))
  sum_by-cut f view agreed cut =
      sum_by-same_records f xs (prefix_of view xs) (prefix_of view ys) agreed (HasSameRecords-cut n view xs ys twins cut)
      (All-take (StandsIn xs) (place view) xs (All-StandsIn xs xs (λ p. refl))) (All-take (StandsIn xs) (place view) ys (All-StandsIn xs ys twins.same))
