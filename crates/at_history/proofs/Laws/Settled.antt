-- What is settled in a history: of each slot the first requests, as many as its rounds name it.
use Rattle.std.proofs.Common.{◌≡◌, ◌≢◌, ℕ, ◌+◌, ◌<◌, ◌≤◌, ◌==◌, ◌&&◌, zero, suc, true, false, List, [], ◌∷◌, ◌++◌, length, take, refl, sym, ap, subst, ◌∙◌, arith, inl, inr}
use Rattle.at_history.proofs.Prelude.{and_parts, cases_Bool, cases_eq, cases_lt, eq-eqb, eqb-true, le-ltb, ltb-false, ne_eqb, get_or-take, get_or_default, length-take, Any-from_list_any, sum_by, Decision, BookTerms, TargetPair, publication_at, is_round_on, names, settles, AgreeOnRound, IsHistory, IsShownDecision, IsShownRound, no_publication, firsts, is_settled, named, repeats, rounds, Entry, Own, Round, Publication}
use Rattle.at_history.proofs.Laws.Histories.{IsNextAtMost-IsHistory, named-rounds, named-unsettled}
use Rattle.at_history.proofs.Laws.Prefixes.{take-publication_at}
use Rattle.at_history.proofs.Laws.Rounds.{IsInitial, IsNextAtMost, firsts-nil, one_if, published, repeats-round, rounds-push_next, rounds-take_mono, sum_by-firsts_new, sum_by-firsts_repeat, sum_by-firsts-take_mono}
use Rattle.at_history.proofs.Laws.RoundsDecided.{IsInitial-IsNextAtMost}

-- the first record of a round stands here
pub record IsFirstOf (xs : List Publication) (a r j : ℕ) : Type 0 where
  pub within : j < length xs
  pub before : rounds a (take j xs) ≡ r
  pub decision : Decision
  pub targets : List TargetPair
  pub entry : (publication_at xs j).entry ≡ Round a r decision targets

IsInitial-IsHistory : (b : BookTerms) (xs : List Publication) (m : ℕ) → IsHistory b xs → m ≤ length xs → (a : ℕ) → IsInitial a (take m xs)
IsInitial-IsHistory b xs m history within =
    IsInitial-IsNextAtMost xs m (λ i inside. IsNextAtMost-IsHistory b xs i history inside) within

-- a record that is counted anew is of the next round
new_round : (a r p : ℕ) (v : List ℕ) (e : Entry) (xs : List Publication) → ((c : ℕ) → IsInitial c xs) → IsNextAtMost xs e
    → repeats (published p v e) (firsts xs) ≡ false → is_round_on a e ≡ true → rounds a xs ≡ r
    → (d : Decision) × (targets : List TargetPair) × (e ≡ Round a r d targets)
new_round a r p v (Own from targets) xs initial next new on at = cc on
new_round a r p v (Round c k d targets) xs initial next new on at =
    let account : c ≡ a = eqb-true c a on in
    let here : k ≡ r =
    omega (arith, next, at, ap (λ t. rounds t xs) account, ltb-false k (rounds c xs) (sym (repeats-round p v c k d targets xs (initial c)) ∙ new)) in
    (d, targets, λ i. Round (account i) (here i) d targets)

-- each round that a prefix has, has its first record there
pub first-below : (b : BookTerms) (xs : List Publication) (m a r : ℕ) → IsHistory b xs → m ≤ length xs → r < rounds a (take m xs)
    → (j : ℕ) × (j < m) × IsFirstOf xs a r j
first-below b xs zero a r history within below =
    absurd (omega (arith, below, ap (sum_by (λ (y : Publication). one_if (is_round_on a y.entry))) firsts-nil))
first-below b xs (suc m) a r history within below =
    let x : Publication = publication_at xs m in
    let f : Publication → ℕ = λ y. one_if (is_round_on a y.entry) in
    let e : suc m ≡ m + 1 = omega arith in
    let counted = ap (λ k. sum_by f (firsts (take k xs))) e ∙ ap (λ t. sum_by f (firsts t)) (take-publication_at xs m (omega arith)) in
    elim (cases_lt r (rounds a (take m xs))) as (λ _. (j : ℕ) × (j < suc m) × IsFirstOf xs a r j) [
      | inl early ↦ let found = first-below b xs m a r history (omega arith) early in (found.0, omega (arith, found.1), found.2)
      | inr late ↦ elim (cases_Bool (repeats x (firsts (take m xs)))) as (λ _. (j : ℕ) × (j < suc m) × IsFirstOf xs a r j) [
        | inl again ↦ absurd (omega (arith, below, late, counted, sum_by-firsts_repeat f (take m xs) x again))
        | inr new ↦ elim (cases_Bool (is_round_on a x.entry)) as (λ _. (j : ℕ) × (j < suc m) × IsFirstOf xs a r j) [
          | inl on ↦
              let at : rounds a (take m xs) ≡ r = omega (arith, below, late, counted, sum_by-firsts_new f (take m xs) x new, ap one_if on) in
              let form = new_round a r x.process x.view x.entry (take m xs) (IsInitial-IsHistory b xs m history (omega arith))
              (IsNextAtMost-IsHistory b xs m history (omega arith)) new on at in
              (m, omega arith, record { within = omega arith; before = at; decision = form.0; targets = form.1; entry = form.2 })
          | inr off ↦ absurd (omega (arith, below, late, counted, sum_by-firsts_new f (take m xs) x new, ap one_if off))
        ]
      ]
    ]

-- a record's round is below the count of rounds of each prefix that has the record
pub round-below : (b : BookTerms) (xs : List Publication) (i m a r : ℕ) (d : Decision) (targets : List TargetPair) → IsHistory b xs → i < m
    → i < length xs → (publication_at xs i).entry ≡ Round a r d targets → r < rounds a (take m xs)
round-below b xs i m a r d targets history before within is =
    let x : Publication = publication_at xs i in
    let y : Publication = published x.process x.view (Round a r d targets) in
    let next : r ≤ rounds a (take i xs) = subst (IsNextAtMost (take i xs)) is (IsNextAtMost-IsHistory b xs i history within) in
    let more : rounds a (take (i + 1) xs) ≡ rounds a (take i xs ++ y ∷ []) =
    ap (rounds a) (take-publication_at xs i within ∙ (λ k. take i xs ++ published x.process x.view (is k) ∷ [])) in
    elim (cases_lt r (rounds a (take i xs))) as (λ _. r < rounds a (take m xs)) [
      | inl below ↦ omega (arith, below, rounds-take_mono a i m xs (omega arith))
      | inr above ↦
          omega (
            arith,
            next,
            above,
            more,
            rounds-push_next x.process x.view a r d targets (take i xs) (IsInitial-IsHistory b xs i history (omega arith) a) (omega (arith, next, above)),
            rounds-take_mono a (i + 1) m xs (omega arith),
          )
    ]

module _ (b : BookTerms) (xs : List Publication) (a r j : ℕ) (history : IsHistory b xs) (first : IsFirstOf xs a r j) where
  -- the first record of a round is counted, in its round and for the slot that it names
  with_first : take (j + 1) xs ≡ take j xs ++ published (publication_at xs j).process (publication_at xs j).view (Round a r first.decision first.targets) ∷ []
  with_first =
      take-publication_at xs j first.within
      ∙ (λ k. take j xs ++ published (publication_at xs j).process (publication_at xs j).view (first.entry k) ∷ [])

  initial : IsInitial a (take j xs)
  initial = IsInitial-IsHistory b xs j history (omega (arith, first.within)) a

  pub rounds-first : rounds a (take (j + 1) xs) ≡ r + 1
  rounds-first =
      omega (
        arith,
        ap (rounds a) with_first,
        rounds-push_next (publication_at xs j).process (publication_at xs j).view a r first.decision first.targets (take j xs) initial first.before,
        first.before,
      )

  pub named-first : (slot : ℕ) → named a slot (take (j + 1) xs) ≡ named a slot (take j xs) + one_if (first.decision.slot == slot)
  named-first slot =
      let x : Publication = publication_at xs j in
      let new = repeats-round x.process x.view a r first.decision first.targets (take j xs) initial
      ∙ le-ltb r (rounds a (take j xs)) (omega (arith, first.before)) in
      ap (named a slot) with_first
      ∙ (sum_by-firsts_new (λ (y : Publication). one_if (names a slot y.entry)) (take j xs)
      (published x.process x.view (Round a r first.decision first.targets)) new
      ∙ ap (λ t. named a slot (take j xs) + one_if (t && (first.decision.slot == slot))) (eq-eqb a a refl))

  shown : IsShownRound b xs a r first.decision first.targets
  shown = subst (IsShownDecision b xs) first.entry (history.decisions j first.within)

  -- its decision names the next request of its slot
  pub number-first : named a first.decision.slot (take j xs) ≡ first.decision.number
  number-first =
      named-rounds a first.decision.slot j first.decision.place xs (omega (arith, first.within)) shown.place (first.before ∙ sym shown.next)
      ∙ shown.number

  -- and it is the one that each record of the round has
  pub decision-first : (k : ℕ) (d : Decision) (targets : List TargetPair) → k < length xs → (publication_at xs k).entry ≡ Round a r d targets
      → d ≡ first.decision
  decision-first k d targets within is =
      (subst (AgreeOnRound (Round a r d targets)) first.entry
      (subst (λ (e : Entry). AgreeOnRound e (publication_at xs j).entry) is (history.agree k j within first.within)) refl refl).0

-- a record that settles a request is of the round that decided it
settles-entry : (a slot number : ℕ) (e : Entry) → settles a slot number e ≡ true
    → (r : ℕ) × (d : Decision) × (targets : List TargetPair) × (e ≡ Round a r d targets) × (d.slot ≡ slot) × (d.number ≡ number)
settles-entry a slot number (Own from targets) is = cc is
settles-entry a slot number (Round c r d targets) is =
    let parts = and_parts (c == a) ((d.slot == slot) && (d.number == number)) is in
    let names = and_parts (d.slot == slot) (d.number == number) parts.1 in
    let account : c ≡ a = eqb-true c a parts.0 in
    (r, d, targets, (λ i. Round (account i) r d targets), eqb-true d.slot slot names.0, eqb-true d.number number names.1)

-- so a record that settles a request stands in a prefix where it is settled
pub record-is_settled : (xs : List Publication) (m a slot number : ℕ) → is_settled a slot number (take m xs) ≡ true
    → (i : ℕ) × (i < m) × (i < length xs) × (settles a slot number (publication_at xs i).entry ≡ true)
record-is_settled xs m a slot number settled =
    let found = Any-from_list_any (λ (y : Publication). settles a slot number y.entry) (take m xs) settled in
    let i = found.0 in
    let inside : (i < m) × (i < length xs) = (omega (arith, found.2, length-take m xs), omega (arith, found.2, length-take m xs)) in
    let x : Publication = publication_at xs i in
    let here : found.1 ≡ x = sym found.3 ∙ (get_or-take m xs i found.1 inside.0 ∙ get_or_default xs i found.1 no_publication inside.1) in
    (i, inside.0, inside.1, subst (λ (y : Publication). settles a slot number y.entry ≡ true) here found.4)

-- a settled request's number is below how often the rounds name its slot
pub is_settled-below_named : (b : BookTerms) (xs : List Publication) (m a slot number : ℕ) → IsHistory b xs → m ≤ length xs
    → is_settled a slot number (take m xs) ≡ true → number < named a slot (take m xs)
is_settled-below_named b xs m a slot number history within settled =
    let found = record-is_settled xs m a slot number settled in
    let i = found.0 in
    let form = settles-entry a slot number (publication_at xs i).entry found.3 in
    let r = form.0 in
    let below = round-below b xs i m a r form.1 form.2 history found.1 found.2 form.3 in
    let one = first-below b xs m a r history within below in
    let j = one.0 in
    let first = one.2 in
    let same : form.1 ≡ first.decision = decision-first b xs a r j history first i form.1 form.2 found.2 form.3 in
    let slot_is : first.decision.slot ≡ slot = sym (ap (λ (t : Decision). t.slot) same) ∙ form.4 in
    let number_is : first.decision.number ≡ number = sym (ap (λ (t : Decision). t.number) same) ∙ form.5 in
    let count : named a slot (take j xs) ≡ number =
    ap (λ t. named a t (take j xs)) (sym slot_is) ∙ (number-first b xs a r j history first ∙ number_is) in
    omega (
      arith,
      count,
      named-first b xs a r j history first slot,
      ap one_if (eq-eqb first.decision.slot slot slot_is),
      sum_by-firsts-take_mono (λ (y : Publication). one_if (names a slot y.entry)) xs (j + 1) m (omega (arith, one.1)),
    )

-- a request whose number is at least that is unsettled
pub unsettled-named : (b : BookTerms) (xs : List Publication) (m a slot number : ℕ) → IsHistory b xs → m ≤ length xs
    → named a slot (take m xs) ≤ number → is_settled a slot number (take m xs) ≡ false
unsettled-named b xs m a slot number history within few =
    elim (cases_Bool (is_settled a slot number (take m xs))) as (λ _. is_settled a slot number (take m xs) ≡ false) [
      | inl settled ↦ absurd (omega (arith, few, is_settled-below_named b xs m a slot number history within settled))
      | inr not ↦ not
    ]

-- a prefix in which a request is unsettled still, with so many rounds
pub record IsUnsettledAt (xs : List Publication) (a slot number r m : ℕ) : Type 0 where
  pub within : m ≤ length xs
  pub rounds_are : rounds a (take m xs) ≡ r
  pub unsettled : is_settled a slot number (take m xs) ≡ false

-- where the next round after such a prefix decides another request, it is unsettled with that round too
pub unsettled-after : (b : BookTerms) (xs : List Publication) (a slot number r m k : ℕ) (d : Decision) (targets : List TargetPair) → IsHistory b xs
    → IsUnsettledAt xs a slot number r m → k < length xs → (publication_at xs k).entry ≡ Round a r d targets
    → (d.slot ≡ slot → d.number ≢ number) → (j : ℕ) × IsUnsettledAt xs a slot number (r + 1) j
unsettled-after b xs a slot number r m k d targets history at within is other =
    let all = length xs in
    let one = first-below b xs all a r history (omega arith) (round-below b xs k all a r d targets history within within is) in
    let j = one.0 in
    let first = one.2 in
    let same : d ≡ first.decision = decision-first b xs a r j history first k d targets within is in
    let before : named a slot (take j xs) ≡ named a slot (take m xs) =
    named-rounds a slot j m xs (omega (arith, first.within)) at.within (first.before ∙ sym at.rounds_are) in
    let few = named-unsettled b xs m a slot number history at.within at.unsettled in
    let counted = named-first b xs a r j history first slot in
    let still : named a slot (take (j + 1) xs) ≤ number =
    elim (cases_eq first.decision.slot slot) as (λ _. named a slot (take (j + 1) xs) ≤ number) [
      | inl on ↦
          let next : named a slot (take j xs) ≡ first.decision.number =
          ap (λ t. named a t (take j xs)) (sym on) ∙ number-first b xs a r j history first in
          let apart : first.decision.number ≢ number = λ e.
          other (ap (λ (t : Decision). t.slot) same ∙ on) (ap (λ (t : Decision). t.number) same ∙ e) in
          let less : (named a slot (take j xs) ≡ number) → ⊥ = λ e. apart (sym next ∙ e) in
          elim (cases_lt (named a slot (take j xs)) number) as (λ _. named a slot (take (j + 1) xs) ≤ number) [
            | inl below ↦ omega (arith, below, counted, ap one_if (eq-eqb first.decision.slot slot on))
            | inr above ↦ absurd (less (omega (arith, above, few, before)))
          ]
      | inr off ↦ omega (arith, few, before, counted, ap one_if (ne_eqb first.decision.slot slot off))
    ] in (
      j + 1,
      record {
        within = omega (arith, first.within);
        rounds_are = rounds-first b xs a r j history first;
        unsettled = unsettled-named b xs (j + 1) a slot number history (omega (arith, first.within)) still;
      },
    )
