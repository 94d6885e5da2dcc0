-- The decisions of an account, the rounds that are published of them, and which request of a slot is the next.
use Rattle.std.proofs.Common.{◌≡◌, ℕ, ◌+◌, ◌<◌, ◌≤◌, ◌==◌, ◌&&◌, ◌||◌, zero, suc, Bool, true, false, List, [], ◌∷◌, ◌++◌, length, take, refl, sym, ap, subst, ◌∙◌, arith, inl, inr}
use Rattle.at_history.proofs.Prelude.{and_from, and_parts, cases_Bool, cases_lt, eq-eqb, eqb-true, lt-ltb, get_or-take, get_or_default, length-take, take-take, take_all, Any-from_list_any, list_any-append, list_any_at, count_by_more_no, count_by_more_yes, sum_by_more_le, count_by, Decision, BookTerms, TargetPair, BoardState, decision_at, publication_at, is_round, is_round_on, settles, prefix_of, IsUndecided, no_publication, firsts, is_settled, repeats, rounds, IsSoundEntry, Sound, Entry, Own, Round, Publication}
use Rattle.at_history.proofs.Laws.HasRuns.{HasRuns-Sound}
use Rattle.at_history.proofs.Laws.Prefixes.{take-publication_at}
use Rattle.at_history.proofs.Laws.Rounds.{IsInitial, IsNextAtMost, firsts-new, firsts-nil, firsts-repeat, has_round, one_if, published, rounds-push_next, rounds-take_mono, sum_by-firsts-le}
use Rattle.at_history.proofs.Laws.RoundsDecided.{IsInitial-take, IsNextAtMost-HasRuns}

abbrev pub no_decision : Decision
no_decision = record { ok = false; slot = 0; number = 0; place = 0 }

-- whether a decision names a slot
abbrev pub names_slot : ℕ → Decision → Bool
names_slot slot e = e.slot == slot

-- before the decision at this index so many name its slot
pub record IsNumbered (slot : ℕ) (xs : List Decision) (m j i : ℕ) : Type 0 where
  pub within : i < m
  pub slot_is : names_slot slot (decision_at xs i) ≡ true
  pub before : count_by (names_slot slot) (take i xs) ≡ j

numbered_at : (slot : ℕ) (xs : List Decision) (m j : ℕ) → m ≤ length xs → j < count_by (names_slot slot) (take m xs)
    → (i : ℕ) × IsNumbered slot xs m j i
numbered_at slot xs zero j within below = absurd (omega arith)
numbered_at slot xs (suc m) j within below =
    let p = names_slot slot in
    let e : m + 1 ≡ suc m = omega arith in
    let here : count_by p (take (m + 1) xs) ≡ count_by p (take (suc m) xs) = ap (λ k. count_by p (take k xs)) e in
    elim (cases_lt j (count_by p (take m xs))) as (λ _. (i : ℕ) × IsNumbered slot xs (suc m) j i) [
      | inl early ↦
          let found = numbered_at slot xs m j (omega arith) early in
          (found.0, record { within = omega (arith, found.1.within); slot_is = found.1.slot_is; before = found.1.before })
      | inr late ↦ elim (cases_Bool (p (decision_at xs m))) as (λ _. (i : ℕ) × IsNumbered slot xs (suc m) j i) [
        | inl named ↦
            let more = count_by_more_yes p xs m no_decision (omega arith) named in
            (m, record { within = omega arith; slot_is = named; before = omega (arith, more, here, below, late) })
        | inr other ↦ absurd (omega (arith, count_by_more_no p xs m no_decision (omega arith) other, here, below, late))
      ]
    ]

-- a decision that names a slot counts after those before it
numbered_below : (slot : ℕ) (xs : List Decision) (i : ℕ) → i < length xs → names_slot slot (decision_at xs i) ≡ true
    → count_by (names_slot slot) (take i xs) + 1 ≤ count_by (names_slot slot) xs
numbered_below slot xs i within named =
    omega (arith, sum_by_more_le (λ (e : Decision). one_if (names_slot slot e)) xs i no_decision within, ap one_if named)

-- a round that is counted stands in a record
pub record IsRoundAt (a r : ℕ) (xs : List Publication) (m i : ℕ) : Type 0 where
  pub within : i < m
  pub is : is_round a r (publication_at xs i).entry ≡ true

or_cases : (x y : Bool) → (x || y) ≡ true → y ≡ false → x ≡ true
or_cases true y either other = refl
or_cases false y either other = sym other ∙ either

round_at : (a r : ℕ) (xs : List Publication) (m : ℕ) → m ≤ length xs → has_round a r (firsts (take m xs)) ≡ true → (i : ℕ) × IsRoundAt a r xs m i
round_at a r xs zero within has = let none : has_round a r [] ≡ true = sym (ap (has_round a r) firsts-nil) ∙ has in absurd (cc none)
round_at a r xs (suc m) within has =
    let x : Publication = publication_at xs m in
    let e : m + 1 ≡ suc m = omega arith in
    let all : take (suc m) xs ≡ take m xs ++ x ∷ [] = ap (λ k. take k xs) (sym e) ∙ take-publication_at xs m (omega arith) in
    let before : has_round a r (firsts (take m xs)) ≡ true → (i : ℕ) × IsRoundAt a r xs (suc m) i =
    λ early.
    let found = round_at a r xs m (omega arith) early in
    (found.0, record { within = omega (arith, found.1.within); is = found.1.is }) in
    elim (cases_Bool (repeats x (firsts (take m xs)))) as (λ _. (i : ℕ) × IsRoundAt a r xs (suc m) i) [
      | inl again ↦ before (sym (ap (has_round a r) (ap firsts all ∙ firsts-repeat (take m xs) x again)) ∙ has)
      | inr new ↦
          let test : Publication → Bool = λ y. is_round a r y.entry in
          let parts : (has_round a r (firsts (take m xs)) || (test x || false)) ≡ true =
          sym (ap (has_round a r) (ap firsts all ∙ firsts-new (take m xs) x new) ∙ list_any-append test (firsts (take m xs)) (x ∷ [])) ∙ has in
          elim (cases_Bool (test x)) as (λ _. (i : ℕ) × IsRoundAt a r xs (suc m) i) [
            | inl here ↦ (m, record { within = omega arith; is = here })
            | inr off ↦ before (or_cases (has_round a r (firsts (take m xs))) (test x || false) parts (ap (λ t. t || false) off))
          ]
    ]

-- a record of a round settles the request that is decided in it
settles-is_round : (b : BookTerms) (s : BoardState) (p : ℕ) (prefix : List Publication) (e : Entry) (a r : ℕ) → IsSoundEntry b s p prefix e
    → is_round a r e ≡ true → settles a (decision_at (s.cells a) r).slot (decision_at (s.cells a) r).number e ≡ true
settles-is_round b s p prefix (Own from targets) a r law is = cc is
settles-is_round b s p prefix (Round account round d targets) a r law is =
    let parts = and_parts (account == a) (round == r) is in
    let e : Decision = decision_at (s.cells a) r in
    let here : d ≡ e = sym (subst (λ t. decision_at (s.cells t) r ≡ d) (eqb-true account a parts.0)
    (subst (λ t. decision_at (s.cells account) t ≡ d) (eqb-true round r parts.1) law.1.decision)) in
    and_from (account == a) ((d.slot == e.slot) && (d.number == e.number)) parts.0
    (and_from (d.slot == e.slot) (d.number == e.number) (eq-eqb d.slot e.slot (ap (λ (t : Decision). t.slot) here))
    (eq-eqb d.number e.number (ap (λ (t : Decision). t.number) here)))

-- the request of a decision whose round stands in a prefix is settled there
pub is_settled-decided : (b : BookTerms) (s : BoardState) (m a r : ℕ) → Sound b s → m ≤ length s.published → r < rounds a (take m s.published)
    → is_settled a (decision_at (s.cells a) r).slot (decision_at (s.cells a) r).number (take m s.published) ≡ true
is_settled-decided b s m a r sound within below =
    let xs = s.published in
    let e : Decision = decision_at (s.cells a) r in
    let has = (IsInitial-take b s m (HasRuns-Sound b s sound) within a).has r ∙ lt-ltb r (rounds a (take m xs)) below in
    let found = round_at a r xs m within has in
    let i = found.0 in
    let x : Publication = publication_at xs i in
    let law : IsSoundEntry b s x.process (prefix_of x.view xs) x.entry = sound.entries i (omega (arith, found.1.within)) in
    let here = get_or-take m xs i no_publication found.1.within in
    list_any_at (λ y. settles a e.slot e.number y.entry) (take m xs) i no_publication (omega (arith, length-take m xs, found.1.within))
    (ap (λ (y : Publication). settles a e.slot e.number y.entry) here
    ∙ settles-is_round b s x.process (prefix_of x.view xs) x.entry a r law found.1.is)

-- after a record the rounds are more than its own, where that is at most the next
round-push : (p : ℕ) (v : List ℕ) (a r : ℕ) (d : Decision) (targets : List TargetPair) (xs : List Publication) → IsInitial a xs → r ≤ rounds a xs
    → r < rounds a (xs ++ published p v (Round a r d targets) ∷ [])
round-push p v a r d targets xs initial next =
    let x = published p v (Round a r d targets) in
    elim (cases_lt r (rounds a xs)) as (λ _. r < rounds a (xs ++ x ∷ [])) [
      | inl below ↦ omega (arith, below, sum_by-firsts-le (λ y. one_if (is_round_on a y.entry)) xs x)
      | inr above ↦ omega (arith, next, above, rounds-push_next p v a r d targets xs initial (omega arith))
    ]

round-push_entry : (p : ℕ) (v : List ℕ) (e : Entry) (a r : ℕ) (xs : List Publication) → IsInitial a xs → IsNextAtMost xs e → is_round a r e ≡ true
    → r < rounds a (xs ++ published p v e ∷ [])
round-push_entry p v (Own from targets) a r xs initial next is = cc is
round-push_entry p v (Round account round d targets) a r xs initial next is =
    let parts = and_parts (account == a) (round == r) is in
    let account_is : account ≡ a = eqb-true account a parts.0 in
    let round_is : round ≡ r = eqb-true round r parts.1 in
    let before : r ≤ rounds a xs = omega (arith, ap (λ t. rounds t xs) account_is, round_is, next) in
    subst (λ t. r < rounds a (xs ++ published p v (Round t round d targets) ∷ [])) (sym account_is)
    (subst (λ t. r < rounds a (xs ++ published p v (Round a t d targets) ∷ [])) (sym round_is)
    (round-push p v a r d targets xs initial before))

-- a record that stands in a prefix is of a round below the count of rounds there
round_within : (b : BookTerms) (s : BoardState) (m i a r : ℕ) → Sound b s → i < m → i < length s.published
    → is_round a r (publication_at s.published i).entry ≡ true → r < rounds a (take m s.published)
round_within b s m i a r sound below within is =
    let xs = s.published in
    let x : Publication = publication_at xs i in
    let here = round-push_entry x.process x.view x.entry a r (take i xs) (IsInitial-take b s i (HasRuns-Sound b s sound) (omega arith) a)
    (IsNextAtMost-HasRuns b s i (HasRuns-Sound b s sound) within) is in
    omega (arith, here, ap (rounds a) (take-publication_at xs i within), rounds-take_mono a (i + 1) m xs (omega arith))

-- where a request is unsettled, no round that stands there names it
pub IsUndecided-unsettled : (b : BookTerms) (s : BoardState) (m a slot number : ℕ) → Sound b s → m ≤ length s.published
    → is_settled a slot number (take m s.published) ≡ false → IsUndecided (s.cells a) slot number (rounds a (take m s.published))
IsUndecided-unsettled b s m a slot number sound within unsettled = λ r below slot_is number_is.
    let e : Decision = decision_at (s.cells a) r in
    let settled = is_settled-decided b s m a r sound within below in
    let here : is_settled a slot number (take m s.published) ≡ true =
    subst (λ t. is_settled a t number (take m s.published) ≡ true) slot_is
    (subst (λ t. is_settled a e.slot t (take m s.published) ≡ true) number_is settled) in
    let false_true : true ≡ false = sym here ∙ unsettled in
    cc false_true

-- a decision names the request
pub record IsNamedIn (s : BoardState) (a slot number r : ℕ) : Type 0 where
  pub within : r < length (s.cells a)
  pub slot_is : (decision_at (s.cells a) r).slot ≡ slot
  pub number_is : (decision_at (s.cells a) r).number ≡ number

named-settles : (b : BookTerms) (s : BoardState) (p : ℕ) (prefix : List Publication) (e : Entry) (a slot number : ℕ) → IsSoundEntry b s p prefix e
    → settles a slot number e ≡ true → (r : ℕ) × IsNamedIn s a slot number r × (is_round a r e ≡ true)
named-settles b s p prefix (Own from targets) a slot number law is = cc is
named-settles b s p prefix (Round account round d targets) a slot number law is =
    let parts = and_parts (account == a) ((d.slot == slot) && (d.number == number)) is in
    let names = and_parts (d.slot == slot) (d.number == number) parts.1 in
    let same : account ≡ a = eqb-true account a parts.0 in
    let here : decision_at (s.cells a) round ≡ d = subst (λ t. decision_at (s.cells t) round ≡ d) same law.1.decision in (
      round,
      record {
        within = subst (λ t. round < length (s.cells t)) same law.1.decided;
        slot_is = ap (λ (t : Decision). t.slot) here ∙ eqb-true d.slot slot names.0;
        number_is = ap (λ (t : Decision). t.number) here ∙ eqb-true d.number number names.1;
      },
      and_from (account == a) (round == round) parts.0 (eq-eqb round round refl),
    )

-- a request that is settled in a prefix is named by a decision, whose round stands there
pub named-is_settled : (b : BookTerms) (s : BoardState) (m a slot number : ℕ) → Sound b s → is_settled a slot number (take m s.published) ≡ true
    → (r : ℕ) × IsNamedIn s a slot number r × (r < rounds a (take m s.published))
named-is_settled b s m a slot number sound settled =
    let xs = s.published in
    let found = Any-from_list_any (λ (y : Publication). settles a slot number y.entry) (take m xs) settled in
    let i = found.0 in
    let inside : (i < m) × (i < length xs) = (omega (arith, found.2, length-take m xs), omega (arith, found.2, length-take m xs)) in
    let x : Publication = publication_at xs i in
    let here : found.1 ≡ x = sym found.3 ∙ (get_or-take m xs i found.1 inside.0 ∙ get_or_default xs i found.1 no_publication inside.1) in
    let named = named-settles b s x.process (prefix_of x.view xs) x.entry a slot number (sound.entries i inside.1)
    (subst (λ (y : Publication). settles a slot number y.entry ≡ true) here found.4) in
    (named.0, named.1, round_within b s m i a named.0 sound inside.0 inside.1 named.2)

-- what no decision names is settled in no prefix
pub unsettled-IsUndecided : (b : BookTerms) (s : BoardState) (m a slot number : ℕ) → Sound b s
    → IsUndecided (s.cells a) slot number (length (s.cells a)) → is_settled a slot number (take m s.published) ≡ false
unsettled-IsUndecided b s m a slot number sound undecided =
    elim (cases_Bool (is_settled a slot number (take m s.published))) as (λ _. is_settled a slot number (take m s.published) ≡ false) [
      | inl settled ↦
          let named = named-is_settled b s m a slot number sound settled in
          absurd (undecided named.0 named.1.within named.1.slot_is named.1.number_is)
      | inr not ↦ not
    ]

-- the decisions of a slot that names its requests in order
numbers_slot : (b : BookTerms) (s : BoardState) (a slot r : ℕ) → Sound b s → r < length (s.cells a) → (decision_at (s.cells a) r).slot ≡ slot
    → count_by (names_slot slot) (take r (s.cells a)) ≡ (decision_at (s.cells a) r).number
numbers_slot b s a slot r sound within slot_is =
    subst (λ t. count_by (names_slot t) (take r (s.cells a)) ≡ (decision_at (s.cells a) r).number) slot_is (sound.numbers a r within)

-- a decision that names a slot counts before each later one
counted_before : (slot : ℕ) (xs : List Decision) (k l : ℕ) → k < l → l < length xs → (decision_at xs k).slot ≡ slot
    → count_by (names_slot slot) (take k xs) + 1 ≤ count_by (names_slot slot) (take l xs)
counted_before slot xs k l below within slot_is =
    let ys = take l xs in
    let inside : k < length ys = omega (arith, length-take l xs, below, within) in
    let named : names_slot slot (decision_at ys k) ≡ true =
    ap (names_slot slot) (get_or-take l xs k no_decision below) ∙ eq-eqb (decision_at xs k).slot slot slot_is in
    omega (arith, numbered_below slot ys k inside named, ap (count_by (names_slot slot)) (take-take k l xs (omega arith)))

-- the decisions of a slot have larger and larger numbers
pub number-less : (b : BookTerms) (s : BoardState) (a slot k l : ℕ) → Sound b s → k < l → l < length (s.cells a)
    → (decision_at (s.cells a) k).slot ≡ slot → (decision_at (s.cells a) l).slot ≡ slot
    → (decision_at (s.cells a) k).number < (decision_at (s.cells a) l).number
number-less b s a slot k l sound below within one other =
    omega (
      arith,
      numbers_slot b s a slot k sound (omega arith) one,
      numbers_slot b s a slot l sound within other,
      counted_before slot (s.cells a) k l below within one,
    )

-- and a slot has had more decisions than such a number
pub number-less-count : (b : BookTerms) (s : BoardState) (a slot r : ℕ) → Sound b s → r < length (s.cells a) → (decision_at (s.cells a) r).slot ≡ slot
    → (decision_at (s.cells a) r).number < count_by (names_slot slot) (s.cells a)
number-less-count b s a slot r sound within slot_is =
    let named = eq-eqb (decision_at (s.cells a) r).slot slot slot_is in
    omega (arith, numbers_slot b s a slot r sound within slot_is, numbered_below slot (s.cells a) r within named)

-- one request is decided in one round
pub same_round : (b : BookTerms) (s : BoardState) (a k l : ℕ) → Sound b s → k < length (s.cells a) → l < length (s.cells a)
    → (decision_at (s.cells a) k).slot ≡ (decision_at (s.cells a) l).slot
    → (decision_at (s.cells a) k).number ≡ (decision_at (s.cells a) l).number → k ≡ l
same_round b s a k l sound one other slots numbers =
    let xs = s.cells a in
    elim (cases_lt k l) as (λ _. k ≡ l) [
      | inl below ↦ absurd (omega (arith, numbers, number-less b s a (decision_at xs l).slot k l sound below other slots refl))
      | inr above ↦ elim (cases_lt l k) as (λ _. k ≡ l) [
        | inl over ↦ absurd (omega (arith, numbers, number-less b s a (decision_at xs l).slot l k sound over one refl slots))
        | inr not ↦ omega (arith, above, not)
      ]
    ]

-- no request but the next of its slot is announced and unsettled where all rounds stand: it isn't an earlier one
not_earlier : (b : BookTerms) (s : BoardState) (m a slot number : ℕ) → Sound b s → m ≤ length s.published
    → rounds a (take m s.published) ≡ length (s.cells a) → is_settled a slot number (take m s.published) ≡ false
    → count_by (names_slot slot) (s.cells a) ≤ number
not_earlier b s m a slot number sound within all unsettled =
    let xs = s.cells a in
    elim (cases_lt number (count_by (names_slot slot) xs)) as (λ _. count_by (names_slot slot) xs ≤ number) [
      | inl below ↦
          let full : take (length xs) xs ≡ xs = take_all (length xs) xs (omega arith) in
          let found = numbered_at slot xs (length xs) number (omega arith) (omega (arith, below, ap (count_by (names_slot slot)) full)) in
          let r = found.0 in
          let slot_is : (decision_at xs r).slot ≡ slot = eqb-true (decision_at xs r).slot slot found.1.slot_is in
          let number_is : (decision_at xs r).number ≡ number = sym (numbers_slot b s a slot r sound found.1.within slot_is) ∙ found.1.before in
          absurd (IsUndecided-unsettled b s m a slot number sound within unsettled r (omega (arith, all, found.1.within)) slot_is number_is)
      | inr above ↦ above
    ]

-- nor a later one
pub not_later : (b : BookTerms) (s : BoardState) (a slot number : ℕ) → Sound b s → number < length (s.rows a slot)
    → number ≤ count_by (names_slot slot) (s.cells a)
not_later b s a slot zero sound announced = omega arith
not_later b s a slot (suc before) sound announced =
    let request = sound.requests a slot (suc before) announced in
    let found = named-is_settled b s _ a slot before sound (request.follows before (omega arith)) in
    let r = found.0 in
    let named = found.1 in
    omega (arith, named.number_is, number-less-count b s a slot r sound named.within named.slot_is)

pub number_is_next : (b : BookTerms) (s : BoardState) (m a slot number : ℕ) → Sound b s → m ≤ length s.published
    → rounds a (take m s.published) ≡ length (s.cells a) → number < length (s.rows a slot) → is_settled a slot number (take m s.published) ≡ false
    → count_by (names_slot slot) (s.cells a) ≡ number
number_is_next b s m a slot number sound within all announced unsettled =
    omega (arith, not_earlier b s m a slot number sound within all unsettled, not_later b s a slot number sound announced)
