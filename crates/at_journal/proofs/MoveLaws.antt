-- Lines that move: the ledger answers them as their receipts say, and has then the balances of one publication more.
use Rattle.std.proofs.Common.{◌≡◌, ℕ, ◌+◌, ◌<◌, ◌≤◌, ◌==◌, ◌&&◌, zero, Bool, true, false, cond, List, length, get_or, set, take, refl, sym, ap, subst, ◌∙◌, arith, inl, inr}
use Rattle.at_journal.proofs.Prelude.{list_any, cases_Bool, cases_eq, eq-eqb, ltb-false, ne_eqb, get_or-set_same, get_or-set_other, get_or-take, get_or_default, length-set, length-take-le, Any-from_list_any, Decision, is_shared, is_single, BookTerms, account_of, AreTargetsOn, TargetPair, amount_of, LedgerState, Step, asked_position, Done, Short, get_or-publications_of, CoversEntry, CoversEntry-HasRuns, BalancesFollow, BalancesFollow-push, MovesNow, balances_after, ledger, pay-done, is_shared-single, IsNextAtMost, one_if, repeats-own, repeats-round, take-publication_at, Entry, Publication, IsCovered, amount_for, credit_of, debit_of, publication_at, is_round, is_same_round, prefix_of, no_publication, publications_of, firsts, repeats, rounds, IsSoundEntry, HasRounds-Coherent, ClosingTerms, receipts_of, Coherent, journal_order, IsAtOwn, IsAtRound, MayPay, is_at_own, is_at_round, is_payout_from, receipt_at, own_position, round_position, is_round-true, HasRuns-journal_order, AreFirsts-take, IsCoherentEntry-journal_order, IsInitial-journal_order, IsNextAtMost-journal_order, round_entry, order_state, IsOwnAt, IsRoundAt, own_position-at, round_position-at, is_payout_from-payout, step-payout}
use Rattle.at_journal.proofs.KeepLaws.{Keeps, Keeps-next, is_full-Keeps}
use Rattle.at_journal.proofs.StillLaws.{Answered, asked-set}

no_ask : (s t : Bool) → t ≡ false → one_if (s && t) ≡ 0
no_ask true t is = ap one_if is
no_ask false t is = refl

-- the balances behind one more publication that moved
money_after : (b : BookTerms) (c : ClosingTerms) (m : ℕ) (balances : List ℕ) (source : ℕ) (targets : List TargetPair)
    → m < length (journal_order c) → BalancesFollow b (take m (journal_order c)) balances
    → MovesNow (take m (journal_order c)) (publication_at (journal_order c) m) source targets → source < length b.accounts
    → AreTargetsOn (length b.accounts) targets → IsCovered b (take m (journal_order c)) source (amount_of targets)
    → BalancesFollow b (take (m + 1) (journal_order c)) (balances_after balances source targets)
money_after b c m balances source targets within money now inside known covered =
    subst (λ xs. BalancesFollow b xs (balances_after balances source targets)) (sym (take-publication_at (journal_order c) m within))
    (BalancesFollow-push b (take m (journal_order c)) (publication_at (journal_order c) m) balances source targets money now inside known covered)

-- the publication at the place of an own receipt is its record
pub own_entry : (c : ClosingTerms) (p m number : ℕ) → IsOwnAt p number (journal_order c) m
    → publication_at (publications_of p (journal_order c)) number ≡ publication_at (journal_order c) m
own_entry c p m number at =
    ap (publication_at (publications_of p (journal_order c))) (sym at.before)
    ∙ get_or-publications_of p m (journal_order c) no_publication at.within at.own

-- an own record of the order moves what it says
own_moves : (xs : List Publication) (x : Publication) (source : ℕ) (targets : List TargetPair) → x.entry ≡ Entry.Own source targets → MovesNow xs x source targets
own_moves xs x source targets is = record {
  new = ap (λ e. list_any (λ (y : Publication). is_same_round e y.entry) (firsts xs)) is ∙ repeats-own x.process x.view source targets (firsts xs);
  debit = λ a. ap (debit_of a) is;
  credit = λ a. ap (credit_of a) is;
}

pub own-answered : (b : BookTerms) (c : ClosingTerms) (m : ℕ) (count : ℕ → ℕ) (balances sent asked : List ℕ) (p i source : ℕ) (targets : List TargetPair)
    → Coherent b c → Keeps b c m count balances sent asked → p < b.processes → count p ≡ i → i < length (receipts_of c p)
    → MayPay b p (take i (receipts_of c p)) source targets (receipt_at (receipts_of c p) i) → is_single (account_of b source) ≡ true
    → (receipt_at (receipts_of c p) i).reply ≡ Done
    → (own : IsAtOwn p (journal_order c) (take i (receipts_of c p)) source targets (receipt_at (receipts_of c p) i))
    → own_position p own.number (journal_order c) ≡ m → Answered b c m (m + 1) count balances sent asked p i
own-answered b c m count balances sent asked p i source targets coherent keeps known here within may single reply own at_m =
    let order = journal_order c in
    let r = receipt_at (receipts_of c p) i in
    let l : LedgerState = ledger b balances sent asked in
    let runs = HasRuns-journal_order b c coherent in
    let x : Publication = publication_at order m in
    let at : IsOwnAt p own.number order m = subst (IsOwnAt p own.number order) at_m (own_position-at p own.number order own.within) in
    let entry : x.entry ≡ Entry.Own source targets = ap (λ (y : Publication). y.entry) (sym (own_entry c p m own.number at)) ∙ own.entry in
    let law : IsSoundEntry b (order_state c) x.process (prefix_of x.view order) (Entry.Own source targets) =
    subst (IsSoundEntry b (order_state c) x.process (prefix_of x.view order)) entry (runs.entries m at.within) in
    let covered : IsCovered b (take m order) source (amount_of targets) = subst (CoversEntry b (take m order)) entry (CoversEntry-HasRuns b (order_state c) m runs at.within) in
    let enough : amount_of targets ≤ get_or balances source 0 = omega (arith, covered, keeps.money.balanced source law.source_in) in
    let free = is_full-Keeps b c m count balances sent asked p source i keeps here known law.source_in ∙ may.room in
    let sent2 = set sent p (get_or sent p 0 + 1) in
    let one : LedgerState = ledger b (balances_after balances source targets) sent (set asked (asked_position b p source) (get_or asked (asked_position b p source) 0 + 1)) in
    let two : LedgerState = ledger b (balances_after balances source targets) sent2 asked in
    let chosen : Bool → Step = λ t. record { ledger = cond t one two; reply = Done } in
    record {
      balances2 = balances_after balances source targets;
      sent2 = sent2;
      asked2 = asked;
      stepped = step-payout l p source targets r.call may.call ∙ (pay-done l p source targets may.owner free enough
          ∙ (ap chosen (is_shared-single b source single) ∙ (λ t. record { ledger = two; reply = sym reply t })));
      keeps = Keeps-next b c m (m + 1) count balances sent asked (balances_after balances source targets) sent2 asked p i keeps here within
          (money_after b c m balances source targets at.within keeps.money (own_moves (take m order) x source targets entry) law.source_in law.targets_in.accounts covered)
          (length-set sent p (get_or sent p 0 + 1)) refl
          (λ q other. one_more q (ap is_at_own own.at))
          (λ q a other there. omega (arith, no_ask (q == p) (is_at_round r.at && is_payout_from a r.call) (ap (λ t. t && is_payout_from a r.call) (ap is_at_round own.at))));
    }
  where
    one_more : (q : ℕ) → is_at_own (receipt_at (receipts_of c p) i).at ≡ true
        → get_or (set sent p (get_or sent p 0 + 1)) q 0 ≡ get_or sent q 0 + one_if ((q == p) && is_at_own (receipt_at (receipts_of c p) i).at)
    one_more q is =
        let y = get_or sent p 0 + 1 in
        elim (cases_eq q p) as (λ _. get_or (set sent p y) q 0 ≡ get_or sent q 0 + one_if ((q == p) && is_at_own (receipt_at (receipts_of c p) i).at)) [
          | inl same ↦
              let one : one_if ((q == p) && is_at_own (receipt_at (receipts_of c p) i).at) ≡ one_if true = λ t. one_if (eq-eqb q p same t && is t) in
              let stored = get_or-set_same sent p y 0 (omega (arith, keeps.senders)) in
              let at : get_or (set sent p y) q 0 ≡ get_or (set sent p y) p 0 = ap (λ k. get_or (set sent p y) k 0) same in
              let old : get_or sent q 0 ≡ get_or sent p 0 = ap (λ k. get_or sent k 0) same in
              omega (arith, one, stored, at, old)
          | inr apart ↦
              let none : one_if ((q == p) && is_at_own (receipt_at (receipts_of c p) i).at) ≡ one_if false =
              ap (λ t. one_if (t && is_at_own (receipt_at (receipts_of c p) i).at)) (ne_eqb q p apart) in
              omega (arith, none, get_or-set_other sent p q y 0 apart)
        ]

-- the first record of a round in the order: no round of its account before it is later, and it repeats none
pub record IsNewRound (c : ClosingTerms) (m a r : ℕ) (d : Decision) (targets : List TargetPair) : Type 0 where
  pub within : m < length (journal_order c)
  pub entry : (publication_at (journal_order c) m).entry ≡ Entry.Round a r d targets
  pub new : repeats (publication_at (journal_order c) m) (firsts (take m (journal_order c))) ≡ false
  pub next : rounds a (take m (journal_order c)) ≡ r

pub IsNewRound-first : (b : BookTerms) (c : ClosingTerms) (m a r k : ℕ) (d : Decision) (targets : List TargetPair) → Coherent b c
    → k < length (journal_order c) → (publication_at (journal_order c) k).entry ≡ Entry.Round a r d targets
    → IsRoundAt a r (journal_order c) m → IsNewRound c m a r d targets
IsNewRound-first b c m a r k d targets coherent inside is at =
    let order = journal_order c in
    let x : Publication = publication_at order m in
    let one = is_round-true a r x.entry at.here in
    let y : Publication = publication_at order k in
    let law = round_entry b c y.process (prefix_of y.view order) y.entry a r d targets (IsCoherentEntry-journal_order b c k coherent inside) is in
    let same = law.2 x one.0 one.1 (m, at.within, get_or_default order m x no_publication at.within) one.2 in
    let entry : x.entry ≡ Entry.Round a r d targets = one.2 ∙ (λ t. Entry.Round a r (same.0 t) (same.1 t)) in
    let so = AreFirsts-take b c m (HasRounds-Coherent b c coherent) (omega (arith, at.within)) in
    let absent : list_any (λ (z : Publication). is_round a r z.entry) (firsts (take m order)) ≡ false =
    elim (cases_Bool (list_any (λ (z : Publication). is_round a r z.entry) (firsts (take m order)))) as (λ _. list_any (λ (z : Publication). is_round a r z.entry) (firsts (take m order)) ≡ false) [
      | inl some ↦
          let found = Any-from_list_any (λ (z : Publication). is_round a r z.entry) (firsts (take m order)) some in
          let there = so.stands found.0 found.2 in
          let size = length-take-le m order (omega (arith, at.within)) in
          let before : there.0 < m = omega (arith, there.1, size) in
          let in_order : publication_at order there.0 ≡ found.1 =
          sym (get_or-take m order there.0 no_publication before) ∙ (there.2 ∙ (get_or_default (firsts (take m order)) found.0 no_publication found.1 found.2 ∙ found.3)) in
          absurd (cc (at.first there.0 before, ap (λ (z : Publication). is_round a r z.entry) in_order, found.4))
      | inr none ↦ none
    ] in
    let new : repeats x (firsts (take m order)) ≡ false =
    ap (λ e. list_any (λ (z : Publication). is_same_round e z.entry) (firsts (take m order))) entry ∙ absent in
    let at_most : r ≤ rounds a (take m order) = subst (λ e. IsNextAtMost (take m order) e) entry (IsNextAtMost-journal_order b c m (HasRounds-Coherent b c coherent) at.within) in
    let initial = IsInitial-journal_order b c m (HasRounds-Coherent b c coherent) (omega (arith, at.within)) a in
    record {
      within = at.within;
      entry = entry;
      new = new;
      next = omega (arith, at_most, ltb-false r (rounds a (take m order)) (sym (repeats-round x.process x.view a r d targets (take m order) initial) ∙ absent));
    }

pub round-answered : (b : BookTerms) (c : ClosingTerms) (m : ℕ) (count : ℕ → ℕ) (balances sent asked : List ℕ) (p i source : ℕ) (targets : List TargetPair)
    → Coherent b c → Keeps b c m count balances sent asked → p < b.processes → count p ≡ i → i < length (receipts_of c p)
    → MayPay b p (take i (receipts_of c p)) source targets (receipt_at (receipts_of c p) i) → is_shared (account_of b source) ≡ true
    → (so : IsAtRound b p (journal_order c) (take i (receipts_of c p)) source targets (receipt_at (receipts_of c p) i))
    → so.decision.ok ≡ true → round_position source so.round (journal_order c) ≡ m → Answered b c m (m + 1) count balances sent asked p i
round-answered b c m count balances sent asked p i source targets coherent keeps known here within may shared so ok at_m =
    let order = journal_order c in
    let r = receipt_at (receipts_of c p) i in
    let l : LedgerState = ledger b balances sent asked in
    let runs = HasRuns-journal_order b c coherent in
    let x : Publication = publication_at order m in
    let there : is_round source so.round (publication_at order so.position).entry ≡ true =
    ap (is_round source so.round) so.entry ∙ (λ t. eq-eqb source source refl t && eq-eqb so.round so.round refl t) in
    let at : IsRoundAt source so.round order m = subst (IsRoundAt source so.round order) at_m (round_position-at source so.round order so.position so.within there) in
    let first = IsNewRound-first b c m source so.round so.position so.decision targets coherent so.within so.entry at in
    let law : IsSoundEntry b (order_state c) x.process (prefix_of x.view order) (Entry.Round source so.round so.decision targets) =
    subst (IsSoundEntry b (order_state c) x.process (prefix_of x.view order)) first.entry (runs.entries m first.within) in
    let closing_law = round_entry b c x.process (prefix_of x.view order) x.entry source so.round so.decision targets (IsCoherentEntry-journal_order b c m coherent first.within) first.entry in
    let covers : CoversEntry b (take m order) (Entry.Round source so.round so.decision targets) =
    subst (CoversEntry b (take m order)) first.entry (CoversEntry-HasRuns b (order_state c) m runs first.within) in
    let covered : IsCovered b (take m order) source (amount_of targets) = covers first.next ok in
    let inside = law.0.account_in in
    let enough : amount_of targets ≤ get_or balances source 0 = omega (arith, covered, keeps.money.balanced source inside) in
    let free = is_full-Keeps b c m count balances sent asked p source i keeps here known inside ∙ may.room in
    let at_place = asked_position b p source in
    let asked2 = set asked at_place (get_or asked at_place 0 + 1) in
    let one : LedgerState = ledger b (balances_after balances source targets) sent asked2 in
    let two : LedgerState = ledger b (balances_after balances source targets) (set sent p (get_or sent p 0 + 1)) asked in
    let chosen : Bool → Step = λ t. record { ledger = cond t one two; reply = Done } in
    let now : MovesNow (take m order) x source targets = record {
      new = first.new;
      debit = λ a. ap (debit_of a) first.entry ∙ ap (λ (t : Bool). cond (t && (source == a)) (amount_of targets) zero) ok;
      credit = λ a. ap (credit_of a) first.entry ∙ ap (λ (t : Bool). cond t (amount_for a targets) zero) ok;
    } in
    record {
      balances2 = balances_after balances source targets;
      sent2 = sent;
      asked2 = asked2;
      stepped = step-payout l p source targets r.call may.call ∙ (pay-done l p source targets may.owner free enough
          ∙ (ap chosen shared ∙ (λ t. record { ledger = one; reply = sym (so.reply ∙ ap (λ u. cond u Done Short) ok) t })));
      keeps = Keeps-next b c m (m + 1) count balances sent asked (balances_after balances source targets) sent asked2 p i keeps here within
          (money_after b c m balances source targets first.within keeps.money now inside closing_law.1.accounts covered) refl
          (length-set asked at_place (get_or asked at_place 0 + 1))
          (λ q other. omega (arith, no_ask (q == p) (is_at_own r.at) (ap is_at_own so.at)))
          (λ q a other there_in.
          let asks : (is_at_round r.at && is_payout_from a r.call) ≡ (source == a) =
          (λ t. ap is_at_round so.at t && is_payout_from-payout a source targets r.call may.call t) in
          asked-set b asked p source q a keeps.askers known inside other there_in
          ∙ ap (λ t. get_or asked (asked_position b q a) 0 + one_if ((q == p) && t)) (sym asks));
    }
