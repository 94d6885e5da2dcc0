-- The rounds of the journal's order: each record is of a round that is at most the next, and says what its round decided.
use Rattle.std.proofs.Common.{◌≡◌, ℕ, ◌+◌, ◌<◌, ◌≤◌, zero, suc, List, [], length, take, sym, ap, subst, ◌∙◌, arith}
use Rattle.at_log.proofs.Prelude.{get_or_default, length-take-le, take_all, count_by, Decision, BookTerms, TargetPair, place-IsCut-le, ArePublishedBy-take, take-publication_at, IsInitial, IsInitial-nil, IsInitial-push, IsNextAtMost, firsts-nil, rounds-take_mono, publication_at, is_round_on, place, prefix_of, ArePublishedBy, count_of, no_publication, firsts, rounds, Entry, Own, Round, Publication, ClosingTerms, Coherent, IsAgreed, IsCoherentEntry, journal_order}
use Rattle.at_log.proofs.Laws.OrderPremises.{HasRounds, HasRounds-Coherent, HasViews}
use Rattle.at_log.proofs.Laws.FirstRecords.{AreFirsts, AreFirsts-nil, AreFirsts-push, is_round-true}
use Rattle.at_log.proofs.Laws.Order.{ArePublishedBy-journal_order}
use Rattle.at_log.proofs.Laws.Views.{HasView-journal_order, count_of-journal_order, publication-journal_order}

-- what a closing says of the entry at a position of its order
pub IsCoherentEntry-journal_order : (b : BookTerms) (c : ClosingTerms) (m : ℕ) → Coherent b c → m < length (journal_order c)
    → let x : Publication = publication_at (journal_order c) m in IsCoherentEntry b c x.process (prefix_of x.view (journal_order c)) x.entry
IsCoherentEntry-journal_order b c m coherent within =
    let order = journal_order c in
    let p = (publication_at order m).process in
    let i = count_of p (take m order) in
    subst (λ (x : Publication). IsCoherentEntry b c p (prefix_of x.view order) x.entry) (publication-journal_order c m within)
    (coherent.entries p i (count_of-journal_order c m within))

-- a view stands before its record
pub place-view-journal_order : (b : BookTerms) (c : ClosingTerms) (m : ℕ) → HasViews b c → m < length (journal_order c)
    → place (publication_at (journal_order c) m).view ≤ m
place-view-journal_order b c m has within =
    let order = journal_order c in
    let view = HasView-journal_order b c m has within in
    let ours = subst (λ n. ArePublishedBy n order) has.logs (ArePublishedBy-journal_order c) in
    omega (
      arith,
      place-IsCut-le b.processes (publication_at order m).view (take m order) view.cut (ArePublishedBy-take b.processes m order ours),
      length-take-le m order (omega (arith, within)),
    )

IsNextAtMost-more : (prefix xs : List Publication) (e : Entry) → ((a : ℕ) → rounds a prefix ≤ rounds a xs) → IsNextAtMost prefix e → IsNextAtMost xs e
IsNextAtMost-more prefix xs (Own from targets) more law = tt
IsNextAtMost-more prefix xs (Round a r d targets) more law = omega (arith, more a, law)

pub IsNextAtMost-journal_order : (b : BookTerms) (c : ClosingTerms) (m : ℕ) → HasRounds b c → m < length (journal_order c)
    → IsNextAtMost (take m (journal_order c)) (publication_at (journal_order c) m).entry
IsNextAtMost-journal_order b c m has within =
    let order = journal_order c in
    let x : Publication = publication_at order m in
    let own = has.next x.process (count_of x.process (take m order)) (count_of-journal_order c m within) in
    IsNextAtMost-more (prefix_of x.view order) (take m order) x.entry
    (λ a. rounds-take_mono a (place x.view) m order (place-view-journal_order b c m has.views within))
    (subst (λ (y : Publication). IsNextAtMost (prefix_of y.view order) y.entry) (publication-journal_order c m within) own)

pub IsInitial-journal_order : (b : BookTerms) (c : ClosingTerms) (m : ℕ) → HasRounds b c → m ≤ length (journal_order c)
    → (a : ℕ) → IsInitial a (take m (journal_order c))
IsInitial-journal_order b c zero has within a = IsInitial-nil a
IsInitial-journal_order b c (suc m) has within a =
    let order = journal_order c in
    let x : Publication = publication_at order m in
    let more = IsInitial-push a (take m order) x.process x.view x.entry (IsInitial-journal_order b c m has (omega arith))
    (IsNextAtMost-journal_order b c m has (omega arith)) in
    let e : m + 1 ≡ suc m = omega arith in
    subst (IsInitial a) (sym (take-publication_at order m (omega arith)) ∙ ap (λ k. take k order) e) more

pub AreFirsts-take : (b : BookTerms) (c : ClosingTerms) (m : ℕ) → HasRounds b c → m ≤ length (journal_order c)
    → AreFirsts (take m (journal_order c)) (firsts (take m (journal_order c)))
AreFirsts-take b c zero has within = subst (AreFirsts []) (sym firsts-nil) AreFirsts-nil
AreFirsts-take b c (suc m) has within =
    let order = journal_order c in
    let x : Publication = publication_at order m in
    let more = AreFirsts-push (take m order) x.process x.view x.entry (IsInitial-journal_order b c m has (omega arith))
    (IsNextAtMost-journal_order b c m has (omega arith)) (AreFirsts-take b c m has (omega arith)) in
    let e : m + 1 ≡ suc m = omega arith in
    subst (λ xs. AreFirsts xs (firsts xs)) (sym (take-publication_at order m (omega arith)) ∙ ap (λ k. take k order) e) more

-- the first records of the rounds of the order
pub AreFirsts-journal_order : (b : BookTerms) (c : ClosingTerms) → HasRounds b c → AreFirsts (journal_order c) (firsts (journal_order c))
AreFirsts-journal_order b c has =
    let order = journal_order c in
    subst (λ xs. AreFirsts xs (firsts xs)) (take_all (length order) order (omega arith)) (AreFirsts-take b c (length order) has (omega arith))

-- what a round's entry says
pub round_entry : (b : BookTerms) (c : ClosingTerms) (p : ℕ) (prefix : List Publication) (e : Entry) (a r : ℕ) (d : Decision) (targets : List TargetPair)
    → IsCoherentEntry b c p prefix e → e ≡ Round a r d targets → IsCoherentEntry b c p prefix (Round a r d targets)
round_entry b c p prefix e a r d targets law is = subst (IsCoherentEntry b c p prefix) is law

-- where the first record of a round stands among the first ones
pub record IsFirst (list : List Publication) (a r : ℕ) (d : Decision) (targets : List TargetPair) : Type 0 where
  pub number : ℕ
  pub within : number < length (firsts list)
  pub entry : (publication_at (firsts list) number).entry ≡ Round a r d targets
  pub before : count_by (λ x. is_round_on a x.entry) (take number (firsts list)) ≡ r

-- each record of a round agrees with the first one
pub IsFirst-journal_order : (b : BookTerms) (c : ClosingTerms) (m a r : ℕ) (d : Decision) (targets : List TargetPair) → HasRounds b c
    → IsAgreed c a r d targets → m < length (journal_order c) → (publication_at (journal_order c) m).entry ≡ Round a r d targets → IsFirst (journal_order c) a r d targets
IsFirst-journal_order b c m a r d targets has agreed within is =
    let order = journal_order c in
    let so = AreFirsts-journal_order b c has in
    let found = so.has m a r d targets within is in
    let j = found.0 in
    let one = is_round-true a r (publication_at (firsts order) j).entry found.2 in
    let there = so.stands j found.1 in
    let same = agreed (publication_at order there.0) one.0 one.1 (there.0, there.1, get_or_default order there.0 (publication_at order there.0) no_publication there.1)
    (ap (λ (y : Publication). y.entry) there.2 ∙ one.2) in
    record {
      number = j;
      within = found.1;
      entry = one.2 ∙ (λ t. Round a r (same.0 t) (same.1 t));
      before = so.order j a r one.0 one.1 found.1 one.2;
    }

-- and stands in the order with all that the closing says of it
pub first_law : (b : BookTerms) (c : ClosingTerms) (j a r : ℕ) (d : Decision) (targets : List TargetPair) → Coherent b c
    → j < length (firsts (journal_order c)) → (publication_at (firsts (journal_order c)) j).entry ≡ Round a r d targets
    → (m : ℕ) × (m < length (journal_order c)) × ((publication_at (journal_order c) m).entry ≡ Round a r d targets)
    × IsCoherentEntry b c (publication_at (journal_order c) m).process (prefix_of (publication_at (journal_order c) m).view (journal_order c)) (Round a r d targets)
first_law b c j a r d targets coherent within is =
    let order = journal_order c in
    let there = (AreFirsts-journal_order b c (HasRounds-Coherent b c coherent)).stands j within in
    let x : Publication = publication_at order there.0 in
    let entry : x.entry ≡ Round a r d targets = ap (λ (y : Publication). y.entry) there.2 ∙ is in (
      there.0,
      there.1,
      entry,
      round_entry b c x.process (prefix_of x.view order) x.entry a r d targets (IsCoherentEntry-journal_order b c there.0 coherent there.1) entry,
    )
