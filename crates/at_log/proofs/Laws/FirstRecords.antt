-- The first records of the rounds of a list: which records they are, and in which order.
use Rattle.std.proofs.Common.{◌≡◌, ℕ, ◌<◌, ◌≤◌, ◌==◌, ◌&&◌, ◌⊎◌, Bool, true, false, List, [], ◌∷◌, ◌++◌, length, take, refl, sym, ap, subst, ◌∙◌, arith, inl, inr}
use Rattle.at_log.proofs.Prelude.{get_or-append_seam, take-append_seam, cases_Bool, cases_lt, eq-eqb, eqb-true, ltb-false, get_or_append_left, get_or_default, length-append, take-append-le, Any-from_list_any, count_by, list_any, Decision, TargetPair, IsInitial, IsNextAtMost, firsts-new, firsts-repeat, published, repeats-round, publication_at, is_round, is_round_on, is_same_round, no_publication, firsts, repeats, rounds, Entry, Own, Round, Publication}

-- a record of a round is one
pub is_round-true : (a r : ℕ) (e : Entry) → is_round a r e ≡ true → (d : Decision) × (targets : List TargetPair) × (e ≡ Round a r d targets)
is_round-true a r (Own from targets) is = absurd (cc is)
is_round-true a r (Round account round d targets) is = (
  d,
  targets,
  λ t. Round (eqb-true account a (and-first (account == a) (round == r) is) t) (eqb-true round r (and-second (account == a) (round == r) is) t) d targets,
)
  where
    and-first : (s t : Bool) → (s && t) ≡ true → s ≡ true
    and-first true t both = refl
    and-first false t both = absurd (cc both)

    and-second : (s t : Bool) → (s && t) ≡ true → t ≡ true
    and-second true t both = both
    and-second false t both = absurd (cc both)

-- some records of a list are the first ones of their rounds, in the order of the rounds
pub record AreFirsts (list first : List Publication) : Type 0 where
  pub stands : (j : ℕ) → j < length first → (m : ℕ) × (m < length list) × (publication_at list m ≡ publication_at first j)
  pub has : (m a r : ℕ) (d : Decision) (targets : List TargetPair) → m < length list → (publication_at list m).entry ≡ Round a r d targets
      → (j : ℕ) × (j < length first) × (is_round a r (publication_at first j).entry ≡ true)
  pub order : (j a r : ℕ) (d : Decision) (targets : List TargetPair) → j < length first → (publication_at first j).entry ≡ Round a r d targets
      → count_by (λ x. is_round_on a x.entry) (take j first) ≡ r

pub AreFirsts-nil : AreFirsts [] []
AreFirsts-nil = record {
  stands = λ j within. absurd (omega arith);
  has = λ m a r d targets within is. absurd (omega arith);
  order = λ j a r d targets within is. absurd (omega arith);
}

-- an earlier position of a longer list, and its last one
at_before : (xs : List Publication) (x : Publication) (m : ℕ) → m < length xs → publication_at (xs ++ x ∷ []) m ≡ publication_at xs m
at_before xs x m within = get_or_append_left xs (x ∷ []) no_publication m within

at_last : (xs : List Publication) (x : Publication) (m : ℕ) → m ≡ length xs → publication_at (xs ++ x ∷ []) m ≡ x
at_last xs x m is = ap (publication_at (xs ++ x ∷ [])) is ∙ get_or-append_seam xs x [] no_publication

last_or_before : (xs : List Publication) (x : Publication) (m : ℕ) → m < length (xs ++ x ∷ []) → (m < length xs) ⊎ (m ≡ length xs)
last_or_before xs x m within =
    elim (cases_lt m (length xs)) as (λ _. (m < length xs) ⊎ (m ≡ length xs)) [
      | inl before ↦ inl before
      | inr beyond ↦ inr (omega (arith, beyond, within, length-append xs (x ∷ [])))
    ]

-- one more publication that repeats a round
AreFirsts-repeat : (xs first : List Publication) (x : Publication) → repeats x first ≡ true → AreFirsts xs first → AreFirsts (xs ++ x ∷ []) first
AreFirsts-repeat xs first x again so = record {
  stands = λ j within.
      let old = so.stands j within in
      (old.0, omega (arith, old.1, length-append xs (x ∷ [])), at_before xs x old.0 old.1 ∙ old.2);
  has = λ m a r d targets within is.
      elim (last_or_before xs x m within) as (λ _. (j : ℕ) × (j < length first) × (is_round a r (publication_at first j).entry ≡ true)) [
        | inl before ↦ so.has m a r d targets before (ap (λ (y : Publication). y.entry) (sym (at_before xs x m before)) ∙ is)
        | inr last ↦
            let entry : x.entry ≡ Round a r d targets = ap (λ (y : Publication). y.entry) (sym (at_last xs x m last)) ∙ is in
            let found : list_any (λ (y : Publication). is_round a r y.entry) first ≡ true =
            sym (ap (λ e. list_any (λ (y : Publication). is_same_round e y.entry) first) entry) ∙ again in
            let some = Any-from_list_any (λ (y : Publication). is_round a r y.entry) first found in (
              some.0,
              some.2,
              ap (λ (y : Publication). is_round a r y.entry) (get_or_default first some.0 no_publication some.1 some.2 ∙ some.3) ∙ some.4,
            )
      ];
  order = so.order;
}

-- and one that is the first of its round, or of none
AreFirsts-new : (xs first : List Publication) (x : Publication) → AreFirsts xs first
    → ((a r : ℕ) (d : Decision) (targets : List TargetPair) → x.entry ≡ Round a r d targets → count_by (λ y. is_round_on a y.entry) first ≡ r)
    → AreFirsts (xs ++ x ∷ []) (first ++ x ∷ [])
AreFirsts-new xs first x so next = record {
  stands = λ j within.
      elim (last_or_before first x j within) as (λ _. (m : ℕ) × (m < length (xs ++ x ∷ [])) × (publication_at (xs ++ x ∷ []) m ≡ publication_at (first ++ x ∷ []) j)) [
        | inl before ↦
            let old = so.stands j before in
            (old.0, omega (arith, old.1, length-append xs (x ∷ [])), at_before xs x old.0 old.1 ∙ (old.2 ∙ sym (at_before first x j before)))
        | inr last ↦ (length xs, omega (arith, length-append xs (x ∷ [])), at_last xs x (length xs) refl ∙ sym (at_last first x j last))
      ];
  has = λ m a r d targets within is.
      elim (last_or_before xs x m within) as (λ _. (j : ℕ) × (j < length (first ++ x ∷ [])) × (is_round a r (publication_at (first ++ x ∷ []) j).entry ≡ true)) [
        | inl before ↦
            let old = so.has m a r d targets before (ap (λ (y : Publication). y.entry) (sym (at_before xs x m before)) ∙ is) in
            (old.0, omega (arith, old.1, length-append first (x ∷ [])), ap (λ (y : Publication). is_round a r y.entry) (at_before first x old.0 old.1) ∙ old.2)
        | inr last ↦
            let entry : x.entry ≡ Round a r d targets = ap (λ (y : Publication). y.entry) (sym (at_last xs x m last)) ∙ is in (
              length first,
              omega (arith, length-append first (x ∷ [])),
              ap (λ (y : Publication). is_round a r y.entry) (at_last first x (length first) refl) ∙ (ap (is_round a r) entry ∙ same_round a r),
            )
      ];
  order = λ j a r d targets within is.
      elim (last_or_before first x j within) as (λ _. count_by (λ y. is_round_on a y.entry) (take j (first ++ x ∷ [])) ≡ r) [
        | inl before ↦
            ap (count_by (λ y. is_round_on a y.entry)) (take-append-le j first (x ∷ []) (omega (arith, before)))
            ∙ so.order j a r d targets before (ap (λ (y : Publication). y.entry) (sym (at_before first x j before)) ∙ is)
        | inr last ↦
            ap (λ k. count_by (λ y. is_round_on a y.entry) (take k (first ++ x ∷ []))) last
            ∙ (ap (count_by (λ y. is_round_on a y.entry)) (take-append_seam first (x ∷ []))
            ∙ next a r d targets (ap (λ (y : Publication). y.entry) (sym (at_last first x j last)) ∙ is))
      ];
}
  where
    same_round : (a r : ℕ) → ((a == a) && (r == r)) ≡ true
    same_round a r = (λ t. eq-eqb a a refl t && (r == r)) ∙ eq-eqb r r refl

-- one more publication
pub AreFirsts-push : (xs : List Publication) (p : ℕ) (v : List ℕ) (e : Entry) → ((a : ℕ) → IsInitial a xs) → IsNextAtMost xs e
    → AreFirsts xs (firsts xs) → AreFirsts (xs ++ published p v e ∷ []) (firsts (xs ++ published p v e ∷ []))
AreFirsts-push xs p v e initial next so =
    let x = published p v e in
    elim (cases_Bool (repeats x (firsts xs))) as (λ _. AreFirsts (xs ++ x ∷ []) (firsts (xs ++ x ∷ []))) [
      | inl again ↦ subst (AreFirsts (xs ++ x ∷ [])) (sym (firsts-repeat xs x again)) (AreFirsts-repeat xs (firsts xs) x again so)
      | inr new ↦
          subst (AreFirsts (xs ++ x ∷ [])) (sym (firsts-new xs x new))
          (AreFirsts-new xs (firsts xs) x so (λ a r d targets is. next_round a r d targets new is))
    ]
  where
    next_round : (a r : ℕ) (d : Decision) (targets : List TargetPair) → repeats (published p v e) (firsts xs) ≡ false → e ≡ Round a r d targets
        → rounds a xs ≡ r
    next_round a r d targets new is =
        let at_most : r ≤ rounds a xs = subst (λ t. IsNextAtMost xs t) is next in
        let fresh : repeats (published p v (Round a r d targets)) (firsts xs) ≡ false = subst (λ t. repeats (published p v t) (firsts xs) ≡ false) is new in
        omega (arith, at_most, ltb-false r (rounds a xs) (sym (repeats-round p v a r d targets xs (initial a)) ∙ fresh))
