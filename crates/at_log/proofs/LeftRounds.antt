-- The rounds of what a ledger leaves: a record of each was published with the view from which its decision was proposed, and of the
-- rounds below it as many name its slot as its decision says.
use Rattle.std.proofs.Common.{◌≡◌, ℕ, ◌+◌, ◌<◌, ◌≤◌, ◌⊎◌, ◌==◌, ◌&&◌, zero, suc, true, false, List, [], ◌∷◌, ◌++◌, length, take, refl, sym, ap, subst, ◌∙◌, arith, inl, inr}
use Rattle.std.specs.Prelude.{nat_lt, Some, None}
use Rattle.at_log.proofs.Prelude.{and_parts, cases_Bool, cases_eq, eq-eqb, eqb-true, le-ltb, lt-ltb, ltb-false, ne_eqb, take_all, count_by, sum_by, Decision, BookTerms, TargetPair, IsNextAtMost-IsHistory, take-publication_at, IsInitial, firsts-nil, has_round, one_if, published, repeats-round, rounds-take_mono, sum_by-firsts-take_same, sum_by-firsts_new, sum_by-firsts_repeat, IsInitial-IsNextAtMost, round-below, BoardState, publication_at, is_round, names, place, prefix_of, AgreeOnRound, IsHistory, IsShownDecision, IsShownRound, firsts, named, repeats, rounds, IsDecidedSo, IsPublished, IsSoundEntry, IsSoundRound, Entry, Own, Round, Publication, ClosingTerms, is_earlier_for, IsLeft}
use Rattle.at_log.proofs.Laws.FirstRecords.{is_round-true}
use Rattle.at_log.proofs.RecordPositions.{list_any-at, list_any-take}

-- a record of an earlier round for a slot names the slot
earlier-yes : (a r slot : ℕ) (e : Entry) → ((k : ℕ) (d : Decision) (targets : List TargetPair) → e ≡ Round a k d targets → k < r)
    → is_earlier_for a r slot e ≡ names a slot e
earlier-yes a r slot (Own from targets) below = refl
earlier-yes a r slot (Round account round d targets) below =
    elim (cases_eq account a) as (λ _. ((account == a) && (nat_lt round r && (d.slot == slot))) ≡ ((account == a) && (d.slot == slot))) [
      | inl same ↦
          let first : round < r = below round d targets (λ t. Round (same t) round d targets) in
          ap (λ t. (account == a) && (t && (d.slot == slot))) (lt-ltb round r first)
      | inr apart ↦ ap (λ t. t && (nat_lt round r && (d.slot == slot))) (ne_eqb account a apart) ∙ sym (ap (λ t. t && (d.slot == slot)) (ne_eqb account a apart))
    ]

earlier-no : (a r slot : ℕ) (e : Entry) → ((k : ℕ) (d : Decision) (targets : List TargetPair) → e ≡ Round a k d targets → r ≤ k)
    → is_earlier_for a r slot e ≡ false
earlier-no a r slot (Own from targets) above = refl
earlier-no a r slot (Round account round d targets) above =
    elim (cases_eq account a) as (λ _. ((account == a) && (nat_lt round r && (d.slot == slot))) ≡ false) [
      | inl same ↦
          let late : r ≤ round = above round d targets (λ t. Round (same t) round d targets) in
          (λ t. eq-eqb account a same t && (le-ltb round r late t && (d.slot == slot)))
      | inr apart ↦ ap (λ t. t && (nat_lt round r && (d.slot == slot))) (ne_eqb account a apart)
    ]

module _ (b : BookTerms) (xs : List Publication) (history : IsHistory b xs) where
  -- a record that is counted anew is of the next round
  round-new : (i a k : ℕ) (d : Decision) (targets : List TargetPair) → i < length xs → repeats (publication_at xs i) (firsts (take i xs)) ≡ false
      → (publication_at xs i).entry ≡ Round a k d targets → rounds a (take i xs) ≤ k
  round-new i a k d targets within new is =
      let x : Publication = publication_at xs i in
      let initial : IsInitial a (take i xs) = IsInitial-IsNextAtMost xs i (λ j inside. IsNextAtMost-IsHistory b xs j history inside) (omega (arith, within)) a in
      let fresh : repeats (published x.process x.view (Round a k d targets)) (firsts (take i xs)) ≡ false =
      subst (λ e. repeats (published x.process x.view e) (firsts (take i xs)) ≡ false) is new in
      ltb-false k (rounds a (take i xs)) (sym (repeats-round x.process x.view a k d targets (take i xs) initial) ∙ fresh)

  -- a prefix with so many rounds has no record of the next one
  pub has_round-none : (a r m : ℕ) → rounds a (take m xs) ≡ r → has_round a r (take m xs) ≡ false
  has_round-none a r m at =
      elim (cases_Bool (has_round a r (take m xs))) as (λ _. has_round a r (take m xs) ≡ false) [
        | inl some ↦
            let found = list_any-take (λ (y : Publication). is_round a r y.entry) m xs some in
            let one = is_round-true a r (publication_at xs found.0).entry found.3 in
            absurd (omega (arith, at, round-below b xs found.0 m a r one.0 one.1 history found.1 found.2 one.2))
        | inr none ↦ none
      ]

  -- whether a record is of an earlier round for a slot, and whether it names the slot at all
  abbrev earlier : ℕ → ℕ → ℕ → Publication → ℕ
  earlier a r slot x = one_if (is_earlier_for a r slot x.entry)

  abbrev naming : ℕ → ℕ → Publication → ℕ
  naming a slot x = one_if (names a slot x.entry)

  -- up to a prefix with so many rounds each record that names the slot is of an earlier round
  earlier_before : (a r slot at m : ℕ) → at ≤ length xs → rounds a (take at xs) ≡ r → m ≤ at
      → sum_by (earlier a r slot) (firsts (take m xs)) ≡ sum_by (naming a slot) (firsts (take m xs))
  earlier_before a r slot at zero inside rounds_are before = ap (sum_by (earlier a r slot)) firsts-nil ∙ sym (ap (sum_by (naming a slot)) firsts-nil)
  earlier_before a r slot at (suc m) inside rounds_are before =
      let x : Publication = publication_at xs m in
      let f = earlier a r slot in
      let g = naming a slot in
      let e : m + 1 ≡ suc m = omega arith in
      let more : take (suc m) xs ≡ take m xs ++ x ∷ [] = ap (λ k. take k xs) (sym e) ∙ take-publication_at xs m (omega (arith, before, inside)) in
      let rest = earlier_before a r slot at m inside rounds_are (omega (arith, before)) in
      let here : f x ≡ g x =
      ap one_if (earlier-yes a r slot x.entry (λ k d targets is.
      omega (arith, rounds_are, round-below b xs m at a k d targets history (omega (arith, before)) (omega (arith, before, inside)) is))) in
      let grown : sum_by f (firsts (take m xs ++ x ∷ [])) ≡ sum_by g (firsts (take m xs ++ x ∷ [])) =
      elim (cases_Bool (repeats x (firsts (take m xs)))) as (λ _. sum_by f (firsts (take m xs ++ x ∷ [])) ≡ sum_by g (firsts (take m xs ++ x ∷ []))) [
        | inl again ↦ sum_by-firsts_repeat f (take m xs) x again ∙ (rest ∙ sym (sum_by-firsts_repeat g (take m xs) x again))
        | inr new ↦ omega (arith, sum_by-firsts_new f (take m xs) x new, rest, here, sum_by-firsts_new g (take m xs) x new)
      ] in
      ap (λ t. sum_by f (firsts t)) more ∙ (grown ∙ sym (ap (λ t. sum_by g (firsts t)) more))

  -- and behind it no new record is
  earlier_behind : (a r slot at : ℕ) → at ≤ length xs → rounds a (take at xs) ≡ r
      → sum_by (earlier a r slot) (firsts (take (length xs) xs)) ≡ sum_by (earlier a r slot) (firsts (take at xs))
  earlier_behind a r slot at inside rounds_are =
      sum_by-firsts-take_same (earlier a r slot) xs at (length xs) inside (omega arith) (λ i above below.
      let x : Publication = publication_at xs i in
      elim (cases_Bool (repeats x (firsts (take i xs)))) as (λ _. (repeats x (firsts (take i xs)) ≡ true) ⊎ (earlier a r slot x ≡ 0)) [
        | inl again ↦ inl again
        | inr new ↦ inr (ap one_if (earlier-no a r slot x.entry (λ k d targets is.
            omega (arith, rounds_are, rounds-take_mono a at i xs above, round-new i a k d targets below new is))))
      ])

  -- of the rounds below one as many name a slot as the prefix with these rounds has
  pub earlier-named : (a r slot at : ℕ) → at ≤ length xs → rounds a (take at xs) ≡ r
      → count_by (λ x. is_earlier_for a r slot x.entry) (firsts xs) ≡ named a slot (take at xs)
  earlier-named a r slot at inside rounds_are =
      ap (λ t. sum_by (earlier a r slot) (firsts t)) (sym (take_all (length xs) xs (omega arith)))
      ∙ (earlier_behind a r slot at inside rounds_are ∙ earlier_before a r slot at at inside rounds_are (omega arith))

-- a record of the round stands here, with the view from which the decision was proposed
pub record IsWinner (list : List Publication) (a r : ℕ) (d : Decision) (targets : List TargetPair) (k : ℕ) : Type 0 where
  pub within : k < length list
  pub entry : (publication_at list k).entry ≡ Round a r d targets
  pub place : place (publication_at list k).view ≡ d.place

module _ (b : BookTerms) (s : BoardState) (c : ClosingTerms) (left : IsLeft b s c) (m a r : ℕ) (d : Decision) (targets : List TargetPair)
    (within : m < length s.published) (is : (publication_at s.published m).entry ≡ Round a r d targets) where
  -- what the state says of a record of a round
  pub sound_round : IsSoundRound b (publication_at s.published m).process (prefix_of (publication_at s.published m).view s.published) a r
      × IsDecidedSo s a r d targets
  sound_round =
      let x : Publication = publication_at s.published m in
      subst (IsSoundEntry b s x.process (prefix_of x.view s.published)) is (left.sound.entries m within)

  pub shown_round : IsShownRound b s.published a r d targets
  shown_round = subst (IsShownDecision b s.published) is (left.history.decisions m within)

  -- each record of its round says the same
  pub agreed_round : (k : ℕ) (f : Decision) (aims : List TargetPair) → k < length s.published → (publication_at s.published k).entry ≡ Round a r f aims
      → (f ≡ d) × (aims ≡ targets)
  agreed_round k f aims inside there =
      subst (AgreeOnRound (Round a r f aims)) is
      (subst (λ (e : Entry). AgreeOnRound e (publication_at s.published m).entry) there (left.history.agree k m inside within)) refl refl

  winner_published : IsPublished a r d.place s.published → (k : ℕ) × IsWinner s.published a r d targets k
  winner_published stands =
      let xs = s.published in
      let found = list_any-at (λ (x : Publication). is_round a r x.entry && (place x.view == d.place)) xs stands in
      let k = found.0 in
      let parts = and_parts (is_round a r (publication_at xs k).entry) (place (publication_at xs k).view == d.place) found.2 in
      let one = is_round-true a r (publication_at xs k).entry parts.0 in
      let same = agreed_round k one.0 one.1 found.1 one.2 in (
        k,
        record {
          within = found.1;
          entry = one.2 ∙ (λ t. Round a r (same.0 t) (same.1 t));
          place = eqb-true (place (publication_at xs k).view) d.place parts.1;
        },
      )

  -- no cell is held, so the winner's record was published
  pub winner_of : (k : ℕ) × IsWinner s.published a r d targets k
  winner_of =
      let so = sound_round.1 in
      elim (left.sound.published a r so.decided) as (λ _. (k : ℕ) × IsWinner s.published a r d targets k) [
        | inl stands ↦ winner_published (subst (λ (e : Decision). IsPublished a r e.place s.published) so.decision stands)
        | inr held ↦
            let both : None ≡ Some (record { account = a; round = r }) = sym (left.free held.0 held.1) ∙ held.2 in
            absurd (cc both)
      ]
