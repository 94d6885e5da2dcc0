-- The journal's order has the laws that runs rest on: each of its prefixes is a run of the ledger.
use Rattle.std.proofs.Common.{◌≡◌, ℕ, ◌<◌, ◌≤◌, ◌==◌, ◌&&◌, ◌↔◌, zero, suc, Bool, true, false, List, [], ◌∷◌, length, take, refl, sym, ap, subst, ◌∙◌, arith, inl, inr}
use Rattle.std.specs.Prelude.{Option}
use Rattle.at_log.proofs.Prelude.{cases_lt, ne_eqb, get_or_default, sum_by-cons, All, count_by, Decision, BookTerms, TargetPair, amount_of, HasRuns, one_if, IsCovered, decision_at, publication_at, request_at, is_own, names, place, prefix_of, no_publication, publications_of, firsts, owns_of, rounds, IsSoundEntry, Entry, Own, Round, Publication, Request, ClosingTerms, log_published, Coherent, IsCoherentEntry, journal_order}
use Rattle.at_log.proofs.Laws.OrderPremises.{HasRounds, HasRounds-Coherent, HasViews-Coherent}
use Rattle.at_log.proofs.Laws.Order.{ArePublishedBy-journal_order, publications_of-journal_order}
use Rattle.at_log.proofs.Laws.OrderRounds.{AreFirsts-journal_order, IsCoherentEntry-journal_order, IsFirst, IsFirst-journal_order, first_law, round_entry}
use Rattle.at_log.proofs.Laws.OrderState.{IsInState, IsInState-first, count_by-decisions, count_by-requests, decision_in, decision_in-some, named_before, order_state, request_in, request_in-some}
use Rattle.at_log.proofs.Laws.Picks.{count_by-filter_both, filter_map-from}
use Rattle.at_log.proofs.Laws.Views.{HasView-journal_order}

-- what the state says of a record of the order
pub IsInState-record : (b : BookTerms) (c : ClosingTerms) (m a r : ℕ) (d : Decision) (targets : List TargetPair) → Coherent b c
    → m < length (journal_order c) → (publication_at (journal_order c) m).entry ≡ Round a r d targets → IsInState c a r d targets
IsInState-record b c m a r d targets coherent within is =
    let order = journal_order c in
    let x : Publication = publication_at order m in
    let law = round_entry b c x.process (prefix_of x.view order) x.entry a r d targets (IsCoherentEntry-journal_order b c m coherent within) is in
    IsInState-first b c a r d targets (HasRounds-Coherent b c coherent) law.4 (IsFirst-journal_order b c m a r d targets (HasRounds-Coherent b c coherent) law.2 within is)

sound_entry : (b : BookTerms) (c : ClosingTerms) (p : ℕ) (prefix : List Publication) (e : Entry) → IsCoherentEntry b c p prefix e
    → ((a r : ℕ) (d : Decision) (targets : List TargetPair) → e ≡ Round a r d targets → IsInState c a r d targets)
    → IsSoundEntry b (order_state c) p prefix e
sound_entry b c p prefix (Own from targets) law so = law
sound_entry b c p prefix (Round a r d targets) law so =
    let state = so a r d targets refl in
    (law.0, record { decided = state.decided; decision = state.decision; same_targets = ap (λ (q : Request). q.targets) state.request })

-- a decision of the state is that of a first record, with all that the closing says of it
decided_by : (b : BookTerms) (c : ClosingTerms) (a r : ℕ) → HasRounds b c → r < length ((order_state c).cells a)
    → (targets : List TargetPair) × IsFirst (journal_order c) a r (decision_at ((order_state c).cells a) r) targets
decided_by b c a r has within =
    let ys = firsts (journal_order c) in
    let pick : Publication → Option Decision = λ x. decision_in a x.entry in
    let d : Decision = decision_at ((order_state c).cells a) r in
    let from = filter_map-from pick ys r no_publication (record { ok = false; slot = 0; number = 0; place = 0 }) within in
    let j = from.0 in
    let one = decision_in-some a (publication_at ys j).entry d from.2 in
    let here = (AreFirsts-journal_order b c has).order j a one.0 d one.1 from.1 one.2 in
    let round_is : one.0 ≡ r = sym here ∙ (sym (count_by-decisions a (take j ys)) ∙ from.3) in (
      one.1,
      record {
        number = j;
        within = from.1;
        entry = one.2 ∙ (λ t. Round a (round_is t) d one.1);
        before = here ∙ round_is;
      },
    )

-- a request of the state is that of a first record that names it
asked_by : (b : BookTerms) (c : ClosingTerms) (a slot i : ℕ) → Coherent b c → i < length ((order_state c).rows a slot)
    → (r : ℕ) × (d : Decision) × IsFirst (journal_order c) a r d (request_at ((order_state c).rows a slot) i).targets × (d.slot ≡ slot) × (d.number ≡ i)
asked_by b c a slot i coherent within =
    let order = journal_order c in
    let ys = firsts order in
    let ask : Publication → Option Request = λ x. request_in a slot x.entry in
    let q : Request = request_at ((order_state c).rows a slot) i in
    let from = filter_map-from ask ys i no_publication (record { targets = []; since = 0 }) within in
    let j = from.0 in
    let one = request_in-some a slot (publication_at ys j).entry q from.2 in
    let first : IsFirst order a one.0 one.1 q.targets = record {
      number = j;
      within = from.1;
      entry = one.2;
      before = (AreFirsts-journal_order b c (HasRounds-Coherent b c coherent)).order j a one.0 one.1 q.targets from.1 one.2;
    } in
    let law = first_law b c j a one.0 one.1 q.targets coherent from.1 one.2 in
    let numbered = law.3.4.next in
    let before = named_before b c a one.0 one.1.slot one.1 q.targets (HasRounds-Coherent b c coherent) first in
    let slot_is : count_by (λ x. names a one.1.slot x.entry) (take j ys) ≡ count_by (λ x. names a slot x.entry) (take j ys) =
    ap (λ s. count_by (λ (x : Publication). names a s x.entry) (take j ys)) one.3 in
    (one.0, one.1, first, one.3, sym numbered ∙ (before ∙ (slot_is ∙ (sym (count_by-requests a slot (take j ys)) ∙ from.3))))

-- how many own records a process has in the order
owns_of-journal_order : (c : ClosingTerms) (p : ℕ) → p < length c.logs → owns_of p (journal_order c) ≡ owns_of p (log_published c p)
unfolding publications_of
owns_of-journal_order c p known =
    sym (count_by-filter_both (λ (x : Publication). x.process == p) (λ x. (x.process == p) && is_own x.entry) (journal_order c) (λ x both. and_first (x.process == p) (is_own x.entry) both))
    ∙ ap (owns_of p) (publications_of-journal_order c p known)
  where
    and_first : (s t : Bool) → (s && t) ≡ true → s ≡ true
    and_first true t both = refl
    and_first false t both = absurd (cc both)

-- a process that isn't one of the closing's has none
owns_of-none : (xs : List Publication) (n p : ℕ) → n ≤ p → All (λ x. x.process < n) xs → owns_of p xs ≡ 0
owns_of-none [] n p beyond known = refl
owns_of-none (x ∷ xs) n p beyond known =
    let apart : (x.process == p) ≡ false = ne_eqb x.process p (λ e. omega (arith, e, known zero x (omega arith))) in
    omega (
      arith,
      sum_by-cons (λ (y : Publication). one_if ((y.process == p) && is_own y.entry)) x xs,
      ap (λ t. one_if (t && is_own x.entry)) apart,
      owns_of-none xs n p beyond (λ i d within. known (suc i) d (omega arith)),
    )

-- the order has the laws that runs rest on
pub HasRuns-journal_order : (b : BookTerms) (c : ClosingTerms) → Coherent b c → HasRuns b (order_state c)
HasRuns-journal_order b c coherent =
    let order = journal_order c in
    record {
      views = λ m within. HasView-journal_order b c m (HasViews-Coherent b c coherent) within;
      entries = λ m within.
          let x : Publication = publication_at order m in
          sound_entry b c x.process (prefix_of x.view order) x.entry (IsCoherentEntry-journal_order b c m coherent within)
          (λ a r d targets is. IsInState-record b c m a r d targets coherent within is);
      own_room = λ p.
          elim (cases_lt p (length c.logs)) as (λ _. owns_of p order ≤ b.own_room) [
            | inl known ↦ omega (arith, owns_of-journal_order c p known, coherent.own_room p)
            | inr beyond ↦ omega (arith, owns_of-none order (length c.logs) p beyond (ArePublishedBy-journal_order c))
          ];
      decisions = λ a r within.
          let d : Decision = decision_at ((order_state c).cells a) r in
          let found = decided_by b c a r (HasRounds-Coherent b c coherent) within in
          let first = found.1 in
          let law = first_law b c first.number a r d found.0 coherent first.within first.entry in
          let state = IsInState-first b c a r d found.0 (HasRounds-Coherent b c coherent) law.3.4 first in
          let proposed = law.3.3 in
          let k = proposed.published.0 in
          let winner_is : publication_at order k ≡ proposed.winner =
          get_or_default order k no_publication proposed.winner proposed.published.1 ∙ proposed.published.2 in
          let winner_law = round_entry b c (publication_at order k).process (prefix_of (publication_at order k).view order) (publication_at order k).entry a r d found.0
          (IsCoherentEntry-journal_order b c k coherent proposed.published.1) (ap (λ (x : Publication). x.entry) winner_is ∙ proposed.entry) in
          let at : place (publication_at order k).view ≡ d.place = ap (λ (x : Publication). place x.view) winner_is ∙ proposed.place in
          let request_is : (request_at ((order_state c).rows a d.slot) d.number).targets ≡ found.0 = ap (λ (q : Request). q.targets) state.request in
          record {
            slot_in = law.3.4.slot_in;
            next = ap (λ m. rounds a (take m order)) (sym at) ∙ winner_law.0.next;
            announced = state.announced;
            ok = subst (λ (ts : List TargetPair). (d.ok ≡ true) ↔ IsCovered b (take d.place order) a (amount_of ts)) (sym request_is)
                (subst (λ m. (d.ok ≡ true) ↔ IsCovered b (take m order) a (amount_of found.0)) proposed.place proposed.ok);
          };
      numbers = λ a r within.
          let d : Decision = decision_at ((order_state c).cells a) r in
          let found = decided_by b c a r (HasRounds-Coherent b c coherent) within in
          let law = first_law b c found.1.number a r d found.0 coherent found.1.within found.1.entry in
          (IsInState-first b c a r d found.0 (HasRounds-Coherent b c coherent) law.3.4 found.1).numbered;
      row_room = λ a slot. row_room a slot (length ((order_state c).rows a slot)) refl;
      targets = λ a slot i within.
          let found = asked_by b c a slot i coherent within in
          let q : Request = request_at ((order_state c).rows a slot) i in
          let law = first_law b c found.2.number a found.0 found.1 q.targets coherent found.2.within found.2.entry in
          law.3.1;
    }
  where
    row_room : (a slot n : ℕ) → length ((order_state c).rows a slot) ≡ n → length ((order_state c).rows a slot) ≤ b.request_room
    row_room a slot zero is = omega (arith, is)
    row_room a slot (suc n) is =
        let found = asked_by b c a slot n coherent (omega (arith, is)) in
        let q : Request = request_at ((order_state c).rows a slot) n in
        let law = first_law b c found.2.number a found.0 found.1 q.targets coherent found.2.within found.2.entry in
        omega (arith, is, found.4, law.3.4.room)
