-- What a record moves is covered where it stands in the list.
use Rattle.std.proofs.Common.{◌≡◌, ℕ, ◌+◌, ◌<◌, ◌≤◌, ◌==◌, ◌&&◌, zero, Bool, true, false, cond, List, [], ◌∷◌, ◌++◌, length, take, refl, sym, ap, subst, ◌∙◌, arith, inl, inr, ◌⊎◌}
use Rattle.at_history.proofs.Prelude.{and_right, cases_Bool, cases_eq, cases_lt, eqb-true, leb-true, ne_eqb, take-take, position, is_some, Decision, AccountTerms, is_shared, is_single, BookTerms, account_of, is_owner, TargetPair, amount_of, IsCovered, credit_of, debit_of, debits, BoardState, publication_at, is_round_on, prefix_of, place, count_of, no_publication, firsts, repeats, rounds, IsSoundEntry, Entry, Own, Round, Publication}
use Rattle.at_history.proofs.Laws.Counts.{count_of-take_mono, count_of-take_more_own}
use Rattle.at_history.proofs.Laws.RoundsDecided.{IsInitial-take, place-view-le}
use Rattle.at_history.proofs.Laws.Cuts.{get_or-IsCut}
use Rattle.at_history.proofs.Laws.Prefixes.{take-publication_at}
use Rattle.at_history.proofs.Laws.Rooms.{is_some-position}
use Rattle.at_history.proofs.Laws.Rounds.{one_if, published, rounds-push_next, sum_by-firsts_new, sum_by-firsts-take_mono, sum_by-firsts-take_same, rounds-take_mono}
use Rattle.at_history.proofs.Laws.HasRuns.{HasRuns, IsRunDecision}

-- an account isn't both single and shared
pub single_or_shared : (t : AccountTerms) → is_single t ≡ true → is_shared t ≡ true → ⊥
single_or_shared t single shared = omega (arith, eqb-true (length t.owners) 1 single, leb-true 2 (length t.owners) shared)

owner_of_one : (owner p : ℕ) → is_some (position (λ o. o == p) (owner ∷ [])) ≡ true → owner ≡ p
owner_of_one owner p found =
    elim (cases_eq owner p) as (λ _. owner ≡ p) [
      | inl same ↦ same
      | inr other ↦ cc (sym (is_some-position owner p []) ∙ found, ap (λ t. cond t true (is_some (position (λ o. o == p) []))) (ne_eqb owner p other))
    ]

-- a single account has one owner
single_owner : (owners : List ℕ) (p q : ℕ) → (length owners == 1) ≡ true → is_some (position (λ o. o == p) owners) ≡ true
    → is_some (position (λ o. o == q) owners) ≡ true → p ≡ q
single_owner [] p q single one other = absurd (omega (arith, eqb-true 0 1 single))
single_owner (o ∷ []) p q single one other = sym (owner_of_one o p one) ∙ owner_of_one o q other
single_owner (o ∷ (o' ∷ os)) p q single one other = absurd (omega (arith, eqb-true (length (o ∷ (o' ∷ os))) 1 single))

debit_of-other : (ok : Bool) (source a amount : ℕ) → (source ≡ a → ⊥) → cond (ok && (source == a)) amount 0 ≡ 0
debit_of-other ok source a amount apart = ap (λ (t : Bool). cond t amount zero) (and_right ok (source == a) (ne_eqb source a apart))

-- a record of another process takes nothing from a single account
debit_of-single : (b : BookTerms) (s : BoardState) (p q a : ℕ) (prefix : List Publication) (e : Entry) → IsSoundEntry b s q prefix e
    → is_single (account_of b a) ≡ true → is_owner b p a ≡ true → (q ≡ p → ⊥) → debit_of a e ≡ 0
debit_of-single b s p q a prefix (Own from targets) law single owner other =
    debit_of-other true from a (amount_of targets)
    (λ same. other (single_owner (account_of b a).owners q p single (subst (λ t. is_owner b q t ≡ true) same law.owner) owner))
debit_of-single b s p q a prefix (Round account r d targets) law single owner other =
    debit_of-other d.ok account a (amount_of targets)
    (λ same. single_or_shared (account_of b a) single (subst (λ t. is_shared (account_of b t) ≡ true) same law.0.shared))

-- only a round of a shared account takes from it
debit_of-shared : (b : BookTerms) (s : BoardState) (q a : ℕ) (prefix : List Publication) (e : Entry) → IsSoundEntry b s q prefix e
    → is_shared (account_of b a) ≡ true → is_round_on a e ≡ false → debit_of a e ≡ 0
debit_of-shared b s q a prefix (Own from targets) law shared off =
    debit_of-other true from a (amount_of targets)
    (λ same. single_or_shared (account_of b a) (subst (λ t. is_single (account_of b t) ≡ true) same law.single) shared)
debit_of-shared b s q a prefix (Round account r d targets) law shared off =
    ap (λ (t : Bool). cond t (amount_of targets) zero) (and_right d.ok (account == a) off)

-- what is covered in a prefix stays covered where nothing was taken in between
IsCovered-take : (b : BookTerms) (xs : List Publication) (a amount k m : ℕ) → k ≤ m → debits a (take m xs) ≡ debits a (take k xs)
    → IsCovered b (take k xs) a amount → IsCovered b (take m xs) a amount
IsCovered-take b xs a amount k m before same covered =
    omega (arith, covered, same, sum_by-firsts-take_mono (λ x. credit_of a x.entry) xs k m before)

-- between a record's view and the record its process publishes nothing
not_own : (b : BookTerms) (s : BoardState) (m i : ℕ) → HasRuns b s → m < length s.published
    → place (publication_at s.published m).view ≤ i → i < m
    → (publication_at s.published i).process ≡ (publication_at s.published m).process → ⊥
not_own b s m i sound within above below own =
    let x : Publication = publication_at s.published m in
    let law = sound.views m within in
    let counted = get_or-IsCut b.processes x.view (take m s.published) x.process law.cut law.process in
    let same = ap (count_of x.process) (take-take (place x.view) m s.published (omega arith)) in
    omega (
      arith,
      counted,
      same,
      law.own,
      count_of-take_more_own x.process i s.published no_publication (omega arith) own,
      count_of-take_mono x.process (place x.view) i s.published above,
      count_of-take_mono x.process (i + 1) m s.published (omega arith),
    )

-- an own record is covered where it stands
IsCovered-own : (b : BookTerms) (s : BoardState) (m from : ℕ) (targets : List TargetPair) → HasRuns b s → m < length s.published
    → IsSoundEntry b s (publication_at s.published m).process (prefix_of (publication_at s.published m).view s.published) (Own from targets)
    → IsCovered b (take m s.published) from (amount_of targets)
IsCovered-own b s m from targets sound within law =
    let x : Publication = publication_at s.published m in
    let before = place-view-le b s m sound within in
    let same = sum_by-firsts-take_same (λ y. debit_of from y.entry) s.published (place x.view) m before (omega arith)
    (λ i above below. inr (debit_of-single b s x.process (publication_at s.published i).process from
    (prefix_of (publication_at s.published i).view s.published) (publication_at s.published i).entry
    (sound.entries i (omega arith)) law.single law.owner (not_own b s m i sound within above below))) in
    IsCovered-take b s.published from (amount_of targets) (place x.view) m before same law.covered

-- a record of an account that is no new round adds no round
repeats_or_off : (b : BookTerms) (s : BoardState) (a k i m : ℕ) → HasRuns b s → is_shared (account_of b a) ≡ true
    → rounds a (take m s.published) ≡ rounds a (take k s.published) → k ≤ i → i < m → m ≤ length s.published
    → (repeats (publication_at s.published i) (firsts (take i s.published)) ≡ true)
    ⊎ (debit_of a (publication_at s.published i).entry ≡ 0)
repeats_or_off b s a k i m sound shared same above below within =
    let x : Publication = publication_at s.published i in
    elim (cases_Bool (repeats x (firsts (take i s.published)))) as (λ _. (repeats x (firsts (take i s.published)) ≡ true) ⊎ (debit_of a x.entry ≡ 0)) [
      | inl again ↦ inl again
      | inr new ↦
          elim (cases_Bool (is_round_on a x.entry)) as (λ _. (repeats x (firsts (take i s.published)) ≡ true) ⊎ (debit_of a x.entry ≡ 0)) [
            | inl on ↦
                let grown = sum_by-firsts_new (λ y. one_if (is_round_on a y.entry)) (take i s.published) x new in
                let here = ap (rounds a) (take-publication_at s.published i (omega arith)) in
                absurd (omega (
                  arith,
                  grown,
                  here,
                  ap one_if on,
                  same,
                  rounds-take_mono a k i s.published above,
                  rounds-take_mono a (i + 1) m s.published (omega arith),
                ))
            | inr off ↦ inr (debit_of-shared b s x.process a (prefix_of x.view s.published) x.entry (sound.entries i (omega arith)) shared off)
          ]
    ]

-- a success of a round is covered where the round's first record stands
IsCovered-round : (b : BookTerms) (s : BoardState) (m a r : ℕ) (d : Decision) (targets : List TargetPair) → HasRuns b s → m < length s.published
    → (publication_at s.published m).entry ≡ Round a r d targets
    → IsSoundEntry b s (publication_at s.published m).process (prefix_of (publication_at s.published m).view s.published) (Round a r d targets)
    → rounds a (take m s.published) ≡ r → d.ok ≡ true → IsCovered b (take m s.published) a (amount_of targets)
IsCovered-round b s m a r d targets sound within is law next ok =
    let x : Publication = publication_at s.published m in
    let decision : IsRunDecision b s a r d = subst (IsRunDecision b s a r) law.1.decision (sound.decisions a r law.1.decided) in
    let initial = IsInitial-take b s m sound (omega arith) a in
    let more : rounds a (take (m + 1) s.published) ≡ rounds a (take m s.published) + 1 =
    ap (rounds a) (take-publication_at s.published m within)
    ∙ (ap (λ e. rounds a (take m s.published ++ published x.process x.view e ∷ [])) is
    ∙ rounds-push_next x.process x.view a r d targets (take m s.published) initial next) in
    let before : d.place ≤ m = elim (cases_lt m d.place) as (λ _. d.place ≤ m) [
      | inl late ↦ absurd (omega (arith, more, next, decision.next, rounds-take_mono a (m + 1) d.place s.published (omega arith)))
      | inr early ↦ early
    ] in
    let same = sum_by-firsts-take_same (λ y. debit_of a y.entry) s.published d.place m before (omega arith)
    (λ i above below. repeats_or_off b s a d.place i m sound law.0.shared (next ∙ sym decision.next) above below (omega arith)) in
    let there = subst (λ t. IsCovered b (take d.place s.published) a (amount_of t)) law.1.same_targets (decision.ok.0 ok) in
    IsCovered-take b s.published a (amount_of targets) d.place m before same there

-- what an entry moves is covered in a list
abbrev pub CoversEntry : BookTerms → List Publication → Entry → Type 0
CoversEntry b xs (Own from targets) = IsCovered b xs from (amount_of targets)
CoversEntry b xs (Round a r d targets) = rounds a xs ≡ r → d.ok ≡ true → IsCovered b xs a (amount_of targets)

CoversEntry-entry : (b : BookTerms) (s : BoardState) (m : ℕ) (e : Entry) → HasRuns b s → m < length s.published
    → (publication_at s.published m).entry ≡ e
    → IsSoundEntry b s (publication_at s.published m).process (prefix_of (publication_at s.published m).view s.published) e
    → CoversEntry b (take m s.published) e
CoversEntry-entry b s m (Own from targets) sound within is law = IsCovered-own b s m from targets sound within law
CoversEntry-entry b s m (Round a r d targets) sound within is law = IsCovered-round b s m a r d targets sound within is law

-- what a publication moves is covered before it
pub CoversEntry-HasRuns : (b : BookTerms) (s : BoardState) (m : ℕ) → HasRuns b s → m < length s.published
    → CoversEntry b (take m s.published) (publication_at s.published m).entry
CoversEntry-HasRuns b s m sound within =
    CoversEntry-entry b s m (publication_at s.published m).entry sound within refl (sound.entries m within)
