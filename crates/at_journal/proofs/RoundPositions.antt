-- The positions of the first records of rounds, record by record.
use Rattle.std.proofs.Common.{◌≡◌, ℕ, ◌+◌, ◌<◌, ◌≤◌, ◌&&◌, ◌⊎◌, true, false, cond, List, [], ◌∷◌, ◌++◌, length, get_or, take, replicate, refl, sym, ap, subst, ◌∙◌, arith, inl, inr}
use Rattle.at_journal.proofs.Prelude.{set, cases_Bool, cases_eq, cases_lt, eq-eqb, lt-ltb, ltb-true, ne_eqb, get_or-replicate, get_or-set_other, get_or-set_same, get_or-take, get_or_append_left, get_or_push, length-replicate, length-set, length-take-le, length_push, list_any_at, sum_by, Decision, BookTerms, TargetPair, take-publication_at, IsNextAtMost, firsts-nil, one_if, published, repeats-round, rounds-push_next, sum_by-firsts_nothing, publication_at, is_round, is_round_on, prefix_of, no_publication, firsts, repeats, rounds, Entry, Own, Round, Publication, HasRounds-Coherent, is_round-true, AreFirsts-take, IsCoherentEntry-journal_order, IsInitial-journal_order, IsNextAtMost-journal_order, round_entry, ClosingTerms, Coherent, journal_order, round_position, round_position-at, HasRoundPositions, IsOnAccount, with_position}

pub HasRoundPositions-none : (accounts : ℕ) (list : List Publication) → HasRoundPositions accounts [] list (replicate accounts [])
HasRoundPositions-none accounts list =
    let nothing : (a : ℕ) → rounds a [] ≡ 0 = λ a. ap (λ xs. sum_by (λ (x : Publication). one_if (is_round_on a x.entry)) xs) firsts-nil in
    record {
      sized = length-replicate accounts [];
      counted = λ a known. ap (length {A = ℕ}) (get_or-replicate accounts a [] [] known) ∙ sym (nothing a);
      first = λ a r known within. absurd (omega (arith, within, ap (length {A = ℕ}) (get_or-replicate accounts a [] [] known)));
    }

-- the first record of a round stands where none does before
round_position-new : (a r : ℕ) (list : List Publication) (k : ℕ) → k < length list → is_round a r (publication_at list k).entry ≡ true
    → ((m : ℕ) → m < k → is_round a r (publication_at list m).entry ≡ false) → round_position a r list ≡ k
round_position-new a r list k within here before =
    let m = round_position a r list in
    let first = round_position-at a r list k within here in
    elim (cases_eq m k) as (λ _. m ≡ k) [
      | inl same ↦ same
      | inr apart ↦
          elim (cases_lt m k) as (λ _. m ≡ k) [
            | inl early ↦ absurd (cc (first.here, before m early))
            | inr late ↦ absurd (cc (here, first.first k (omega arith)))
          ]
    ]

module _ (b : BookTerms) (c : ClosingTerms) (k : ℕ) (coherent : Coherent b c) (within : k < length (journal_order c)) where
  -- the record at the position
  abbrev here : Publication
  here = publication_at (journal_order c) k

  -- those before it
  abbrev before : List Publication
  before = take k (journal_order c)

  -- no record of the next round stands before
  none_before : (a r : ℕ) → rounds a before ≡ r → (m : ℕ) → m < k → is_round a r (publication_at (journal_order c) m).entry ≡ false
  none_before a r next m early =
      let order = journal_order c in
      let x : Publication = publication_at order m in
      elim (cases_Bool (is_round a r x.entry)) as (λ _. is_round a r x.entry ≡ false) [
        | inl some ↦
            let is = is_round-true a r x.entry some in
            let same : publication_at before m ≡ x = get_or-take k order m no_publication early in
            let found = (AreFirsts-take b c k (HasRounds-Coherent b c coherent) (omega (arith, within))).has m a r is.0 is.1 (omega (arith, early, within, length-take-le k order (omega (arith, within))))
            (ap (λ (y : Publication). y.entry) same ∙ is.2) in
            let has = list_any_at (λ (y : Publication). is_round a r y.entry) (firsts before) found.0 no_publication found.1 found.2 in
            let less = ltb-true r (rounds a before) (sym ((IsInitial-journal_order b c k (HasRounds-Coherent b c coherent) (omega (arith, within)) a).has r) ∙ has) in
            absurd (omega (arith, less, next))
        | inr none ↦ none
      ]

  -- a record that starts no round of an account adds none to it
  rounds-same : (a : ℕ) → (repeats here (firsts before) ≡ true) ⊎ (is_round_on a here.entry ≡ false)
      → rounds a (take (k + 1) (journal_order c)) ≡ rounds a before
  rounds-same a (inl again) = ap (rounds a) (take-publication_at (journal_order c) k within) ∙ sum_by-firsts_nothing (λ y. one_if (is_round_on a y.entry)) before here (inl again)
  rounds-same a (inr other) =
      ap (rounds a) (take-publication_at (journal_order c) k within) ∙ sum_by-firsts_nothing (λ y. one_if (is_round_on a y.entry)) before here (inr (ap one_if other))

  -- with no new round all stays
  HasRoundPositions-same : (starts : List (List ℕ)) → ((a : ℕ) → (repeats here (firsts before) ≡ true) ⊎ (is_round_on a here.entry ≡ false))
      → HasRoundPositions (length b.accounts) before (journal_order c) starts
      → HasRoundPositions (length b.accounts) (take (k + 1) (journal_order c)) (journal_order c) starts
  HasRoundPositions-same starts nothing so = record {
    sized = so.sized;
    counted = λ a known. so.counted a known ∙ sym (rounds-same a (nothing a));
    first = so.first;
  }

  -- the next round of its account
  HasRoundPositions-next : (starts : List (List ℕ)) (account r : ℕ) (d : Decision) (targets : List TargetPair) → here.entry ≡ Round account r d targets
      → account < length b.accounts → length (get_or starts account []) ≡ r
      → HasRoundPositions (length b.accounts) before (journal_order c) starts
      → HasRoundPositions (length b.accounts) (take (k + 1) (journal_order c)) (journal_order c) (set starts account (get_or starts account [] ++ k ∷ []))
  HasRoundPositions-next starts account r d targets is known next so =
      let order = journal_order c in
      let old = get_or starts account [] in
      let new = old ++ k ∷ [] in
      let count : rounds account before ≡ r = sym (so.counted account known) ∙ next in
      let at : (a : ℕ) → a ≡ account → get_or (set starts account new) a [] ≡ new =
      λ a same. ap (λ i. get_or (set starts account new) i []) same ∙ get_or-set_same starts account new [] (omega (arith, known, so.sized)) in
      let off : (a : ℕ) → (a ≡ account → ⊥) → get_or (set starts account new) a [] ≡ get_or starts a [] =
      λ a apart. get_or-set_other starts account a new [] apart in
      let more : rounds account (take (k + 1) order) ≡ rounds account before + 1 =
      ap (rounds account) (take-publication_at order k within)
      ∙ (ap (λ e. rounds account (before ++ published here.process here.view e ∷ [])) is
      ∙ rounds-push_next here.process here.view account r d targets before (IsInitial-journal_order b c k (HasRounds-Coherent b c coherent) (omega (arith, within)) account) count) in
      let place : round_position account r order ≡ k =
      round_position-new account r order k within
      (ap (is_round account r) is ∙ (λ t. eq-eqb account account refl t && eq-eqb r r refl t)) (none_before account r count) in
      record {
        sized = length-set starts account new ∙ so.sized;
        counted = λ a inside.
            elim (cases_eq a account) as (λ _. length (get_or (set starts account new) a []) ≡ rounds a (take (k + 1) order)) [
              | inl same ↦
                  ap length (at a same) ∙ (length_push old k ∙ (ap (λ n. n + 1) (so.counted account known) ∙ (sym more ∙ ap (λ i. rounds i (take (k + 1) order)) (sym same))))
              | inr apart ↦
                  ap length (off a apart)
                  ∙ (so.counted a inside ∙ sym (rounds-same a (inr (ap (is_round_on a) is ∙ ne_eqb account a (λ e. apart (sym e))))))
            ];
        first = λ a i inside small.
            elim (cases_eq a account) as (λ _. get_or (get_or (set starts account new) a []) i 0 ≡ round_position a i order) [
              | inl same ↦
                  elim (cases_lt i (length old)) as (λ _. get_or (get_or (set starts account new) a []) i 0 ≡ round_position a i order) [
                    | inl early ↦
                        ap (λ xs. get_or xs i 0) (at a same)
                        ∙ (get_or_append_left old (k ∷ []) 0 i early ∙ (so.first account i known early ∙ ap (λ j. round_position j i order) (sym same)))
                    | inr last ↦
                        let i_is : length old ≡ i = omega (arith, last, small, ap length (at a same), length_push old k) in
                        ap (λ xs. get_or xs i 0) (at a same)
                        ∙ (get_or_push old k 0 i i_is ∙ (sym place ∙ (λ t. round_position (sym same t) ((sym next ∙ i_is) t) order)))
                  ]
              | inr apart ↦
                  ap (λ xs. get_or xs i 0) (off a apart) ∙ so.first a i inside (omega (arith, small, ap length (off a apart)))
            ];
      }

  -- whatever its entry is
  with_entry : (starts : List (List ℕ)) (e : Entry) → here.entry ≡ e → HasRoundPositions (length b.accounts) before (journal_order c) starts
      → HasRoundPositions (length b.accounts) (take (k + 1) (journal_order c)) (journal_order c) (with_position k e starts)
  with_entry starts (Own from targets) is so = HasRoundPositions-same starts (λ a. inr (ap (is_round_on a) is)) so
  with_entry starts (Round account r d targets) is so =
      let order = journal_order c in
      let law = round_entry b c here.process (prefix_of here.view order) here.entry account r d targets (IsCoherentEntry-journal_order b c k coherent within) is in
      let known : account < length b.accounts = law.0.account_in in
      let new = set starts account (get_or starts account [] ++ k ∷ []) in
      elim (cases_eq (length (get_or starts account [])) r) as (λ _. HasRoundPositions (length b.accounts) (take (k + 1) order) order (with_position k (Round account r d targets) starts)) [
        | inl next ↦
            subst (HasRoundPositions (length b.accounts) (take (k + 1) order) order) (sym (ap (λ t. cond t new starts) (eq-eqb (length (get_or starts account [])) r next)))
            (HasRoundPositions-next starts account r d targets is known next so)
        | inr apart ↦
            let at_most : r ≤ rounds account before = subst (IsNextAtMost before) is (IsNextAtMost-journal_order b c k (HasRounds-Coherent b c coherent) within) in
            let again : repeats here (firsts before) ≡ true =
            ap (λ e. repeats (published here.process here.view e) (firsts before)) is
            ∙ (repeats-round here.process here.view account r d targets before (IsInitial-journal_order b c k (HasRounds-Coherent b c coherent) (omega (arith, within)) account)
            ∙ lt-ltb r (rounds account before) (omega (arith, at_most, apart, so.counted account known))) in
            subst (HasRoundPositions (length b.accounts) (take (k + 1) order) order) (sym (ap (λ t. cond t new starts) (ne_eqb (length (get_or starts account [])) r apart)))
            (HasRoundPositions-same starts (λ a. inl again) so)
      ]

  -- the record is of an account of the book
  on_account : (e : Entry) → here.entry ≡ e → IsOnAccount (length b.accounts) e
  on_account (Own from targets) is = tt
  on_account (Round account r d targets) is =
      (round_entry b c here.process (prefix_of here.view (journal_order c)) here.entry account r d targets (IsCoherentEntry-journal_order b c k coherent within) is).0.account_in

  pub HasRoundPositions-more : (starts : List (List ℕ)) → HasRoundPositions (length b.accounts) before (journal_order c) starts
      → HasRoundPositions (length b.accounts) (take (k + 1) (journal_order c)) (journal_order c) (with_position k here.entry starts)
  HasRoundPositions-more starts so = with_entry starts here.entry refl so

  pub IsOnAccount-journal_order : IsOnAccount (length b.accounts) here.entry
  IsOnAccount-journal_order = on_account here.entry refl

-- a position is noted at the next round of its account
pub with_position-next : (position account r : ℕ) (d : Decision) (targets : List TargetPair) (starts : List (List ℕ)) → length (get_or starts account []) ≡ r
    → with_position position (Round account r d targets) starts ≡ set starts account (get_or starts account [] ++ position ∷ [])
with_position-next position account r d targets starts next =
    ap (λ t. cond t (set starts account (get_or starts account [] ++ position ∷ [])) starts) (eq-eqb (length (get_or starts account [])) r next)
