-- The journal's order of a coherent closing shows what a council's list shows.
use Rattle.std.proofs.Common.{◌≡◌, ℕ, ◌<◌, ◌≤◌, List, length, take, refl, sym, ap, subst, ◌∙◌, arith}
use Rattle.at_agree.proofs.Prelude.{get_or_default, Contains-get_or, Decision, IsBegun, TargetPair, amount_of, IsNextAtMost, AreRuns-HasRuns, IsCovered, publication_at, place, prefix_of, AgreeOnRound, no_publication, rounds, Entry, Own, Round, Publication, HasRuns-journal_order, HasRounds-Coherent, HasViews-Coherent, IsCoherentEntry-journal_order, IsNextAtMost-journal_order, place-view-journal_order, order_state, HasView-journal_order, ClosingTerms, Coherent, IsCoherentEntry, IsProposed, journal_order, IsSize, council_book, shared_account}
use Rattle.at_agree.proofs.CouncilBook.{is_shared-only, is_single-own, length-accounts, owner-own, slots_of-shared}
use Rattle.at_agree.proofs.Shown.{IsCouncilList}

-- the shared account covers the targets after a prefix
abbrev IsCoveredAt : ℕ → List Publication → ℕ → List TargetPair → Type 0
IsCoveredAt k order n targets = IsCovered (council_book k) (take n order) (shared_account k) (amount_of targets)

-- what the closing says of a record of the order, by its entry
entry_law : (k : ℕ) (c : ClosingTerms) (m : ℕ) (e : Entry) → Coherent (council_book k) c → m < length (journal_order c)
    → (publication_at (journal_order c) m).entry ≡ e
    → IsCoherentEntry (council_book k) c (publication_at (journal_order c) m).process (prefix_of (publication_at (journal_order c) m).view (journal_order c)) e
entry_law k c m e coherent within is =
    let x : Publication = publication_at (journal_order c) m in
    subst (IsCoherentEntry (council_book k) c x.process (prefix_of x.view (journal_order c))) is
    (IsCoherentEntry-journal_order (council_book k) c m coherent within)

-- records of one round agree
agree_in_order : (k : ℕ) (c : ClosingTerms) (m n : ℕ) (e e' : Entry) → Coherent (council_book k) c → m < length (journal_order c)
    → n < length (journal_order c) → (publication_at (journal_order c) m).entry ≡ e → (publication_at (journal_order c) n).entry ≡ e' → AgreeOnRound e e'
agree_in_order k c m n (Own from targets) e' coherent one other is is' = tt
agree_in_order k c m n (Round account r d targets) (Own from' targets') coherent one other is is' = tt
agree_in_order k c m n (Round account r d targets) (Round account' r' d' targets') coherent one other is is' =
    λ same_account same_round.
    let law = entry_law k c m (Round account r d targets) coherent one is in
    let there : (publication_at (journal_order c) n).entry ≡ Round account r d' targets' =
    is' ∙ (λ t. Round (sym same_account t) (sym same_round t) d' targets') in
    let same = law.2 (publication_at (journal_order c) n) d' targets' (Contains-get_or (journal_order c) n no_publication other) there in
    (sym same.0, sym same.1)

-- the winner of a round stands in the order, with the view from which the round was proposed
module _ (k : ℕ) (c : ClosingTerms) (r : ℕ) (d : Decision) (targets : List TargetPair) where
  proposed_round : Coherent (council_book k) c → IsProposed (council_book k) c (shared_account k) r d targets
      → (d.place ≤ length (journal_order c)) × (rounds (shared_account k) (take d.place (journal_order c)) ≡ r)
  proposed_round coherent proposed =
      let order = journal_order c in
      let n = proposed.published.0 in
      let within : n < length order = proposed.published.1 in
      let winner_is : publication_at order n ≡ proposed.winner = get_or_default order n no_publication proposed.winner within ∙ proposed.published.2 in
      let entry : (publication_at order n).entry ≡ Round (shared_account k) r d targets = ap (λ (x : Publication). x.entry) winner_is ∙ proposed.entry in
      let at : place (publication_at order n).view ≡ d.place = ap (λ (x : Publication). place x.view) winner_is ∙ proposed.place in
      let law = entry_law k c n (Round (shared_account k) r d targets) coherent within entry in (
        omega (arith, at, within, place-view-journal_order (council_book k) c n (HasViews-Coherent (council_book k) c coherent) within),
        ap (λ m. rounds (shared_account k) (take m order)) (sym at) ∙ law.0.next,
      )

pub IsCouncilList-Coherent : (k : ℕ) (c : ClosingTerms) → IsSize k → IsBegun (council_book k) → Coherent (council_book k) c → IsCouncilList k (journal_order c)
IsCouncilList-Coherent k c size begun coherent =
    let b = council_book k in
    let a = shared_account k in
    let order = journal_order c in
    let runs = HasRuns-journal_order b c coherent in
    record {
      known = λ m within. (HasView-journal_order b c m (HasViews-Coherent b c coherent) within).process;
      own = λ m from targets within is.
          let law = entry_law k c m (Own from targets) coherent within is in
          owner-own k from (publication_at order m).process (is_single-own k from size.some law.source_in law.single) law.owner;
      account = λ m account r d targets within is.
          let law = entry_law k c m (Round account r d targets) coherent within is in
          is_shared-only k account law.0.account_in law.0.shared;
      round = λ m r d targets within is.
          let law = entry_law k c m (Round a r d targets) coherent within is in
          let proposed = proposed_round k c r d targets coherent law.3 in
          record {
            slot_in = omega (arith, law.4.slot_in, slots_of-shared k size.some);
            at_most = subst (IsNextAtMost (take m order)) is (IsNextAtMost-journal_order b c m (HasRounds-Coherent b c coherent) within);
            place_in = proposed.0;
            next = proposed.1;
            ok = λ covered. law.3.ok.1 (subst (λ n. IsCoveredAt k order n targets) (sym law.3.place) covered);
          };
      agree = λ m n one other.
          agree_in_order k c m n (publication_at order m).entry (publication_at order n).entry coherent one other refl refl;
      covered = λ m within. (AreRuns-HasRuns b (order_state c) runs begun m within).covered a (omega (arith, length-accounts k));
      own_room = runs.own_room;
    }
