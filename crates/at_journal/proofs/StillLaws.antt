-- Lines that move nothing: the ledger answers them as their receipts say, where the balances are those of their place.
use Rattle.std.proofs.Common.{◌≡◌, ℕ, ◌+◌, ◌*◌, ◌<◌, ◌≤◌, ◌==◌, ◌&&◌, zero, suc, Bool, true, false, cond, List, [], ◌∷◌, length, get_or, set, take, refl, sym, ap, subst, ◌∙◌, arith, inl, inr}
use Rattle.at_journal.proofs.Prelude.{get_or-eq_default, cases_Bool, cases_eq, cases_lt, eq-eqb, ne_eqb, get_or-set_same, get_or-set_other, get_or_default, length-set, take_all, sum_by-cons, mul-add-lt, same_from_place, sum_by, AccountTerms, is_owner_in, no_account, BookTerms, account_of, is_owner, AreTargetsOn, TargetPair, amount_of, LedgerState, Step, asked_position, step, Balance, Done, Short, ledger, IsRunDecision, one_if, sum_by-firsts-take_mono, is_shared-single, IsCovered, amount_for, balance_after, credit_of, credits, publication_at, request_at, place, prefix_of, no_publication, firsts, Entry, Publication, Request, HasRounds-Coherent, still_at, after_short-shared, after_short-single, is_payout_from-payout, pay-full, pay-not_owner, pay-short, step-payout, HasRuns-journal_order, IsInState-record, AreFirsts-journal_order, IsCoherentEntry-journal_order, order_state, ClosingTerms, receipts_of, Coherent, IsCoherentEntry, journal_order, IsPlaced, read, not_owner, full, short, done, round, is_at_own, is_at_round, is_payout_from, is_success, receipt_at}
use Rattle.at_journal.proofs.KeepLaws.{Keeps, Keeps-next, is_full-Keeps, with_count}

-- an owner's account is there
pub owner_within : (b : BookTerms) (p a : ℕ) → is_owner b p a ≡ true → a < length b.accounts
owner_within b p a owner =
    elim (cases_lt a (length b.accounts)) as (λ _. a < length b.accounts) [
      | inl within ↦ within
      | inr beyond ↦
          let none : is_owner b p a ≡ false = ap (λ t. is_owner_in t p) (get_or-eq_default b.accounts no_account beyond) in
          absurd (cc (owner, none))
    ]

-- one more request on an account
pub asked-set : (b : BookTerms) (asked : List ℕ) (p source q a : ℕ) → length asked ≡ b.processes * length b.accounts
    → p < b.processes → source < length b.accounts → q < b.processes → a < length b.accounts
    → get_or (set asked (asked_position b p source) (get_or asked (asked_position b p source) 0 + 1)) (asked_position b q a) 0
    ≡ get_or asked (asked_position b q a) 0 + one_if ((q == p) && (source == a))
asked-set b asked p source q a sized known inside other there =
    let at = asked_position b p source in
    let y = get_or asked at 0 + 1 in
    let within : at < length asked = omega (arith, sized, mul-add-lt p (length b.accounts) source b.processes known inside) in
    elim (cases_eq (asked_position b q a) at) as (λ _. get_or (set asked at y) (asked_position b q a) 0 ≡ get_or asked (asked_position b q a) 0 + one_if ((q == p) && (source == a))) [
      | inl same ↦
          let parts = same_from_place q a p source (length b.accounts) there inside same in
          let one : one_if ((q == p) && (source == a)) ≡ one_if true = λ t. one_if (eq-eqb q p parts.0 t && eq-eqb source a (sym parts.1) t) in
          let stored = get_or-set_same asked at y 0 within in
          let here : get_or (set asked at y) (asked_position b q a) 0 ≡ get_or (set asked at y) at 0 = ap (λ i. get_or (set asked at y) i 0) same in
          let old : get_or asked (asked_position b q a) 0 ≡ get_or asked at 0 = ap (λ i. get_or asked i 0) same in
          omega (arith, one, stored, here, old)
      | inr apart ↦
          let none : ((q == p) && (source == a)) ≡ false =
          elim (cases_eq q p) as (λ _. ((q == p) && (source == a)) ≡ false) [
            | inl same ↦
                elim (cases_eq source a) as (λ _. ((q == p) && (source == a)) ≡ false) [
                  | inl both ↦ absurd (apart (λ t. asked_position b (same t) (sym both t)))
                  | inr differs ↦ (λ t. eq-eqb q p same t && ne_eqb source a differs t)
                ]
            | inr differs ↦ ap (λ t. t && (source == a)) (ne_eqb q p differs)
          ] in
          omega (arith, get_or-set_other asked at (asked_position b q a) y 0 apart, ap one_if none)
    ]

-- one line of a process is answered so
pub record Answered (b : BookTerms) (c : ClosingTerms) (m next : ℕ) (done : ℕ → ℕ) (balances sent asked : List ℕ) (p i : ℕ) : Type 0 where
  pub balances2 : List ℕ
  pub sent2 : List ℕ
  pub asked2 : List ℕ
  pub stepped : step (ledger b balances sent asked) p (receipt_at (receipts_of c p) i).call
      ≡ record { ledger = ledger b balances2 sent2 asked2; reply = (receipt_at (receipts_of c p) i).reply }
  pub keeps : Keeps b c next (with_count done p (i + 1)) balances2 sent2 asked2

-- such a line leaves all as it is
still_kept : (b : BookTerms) (c : ClosingTerms) (m : ℕ) (count : ℕ → ℕ) (balances sent asked : List ℕ) (p i : ℕ)
    → Keeps b c m count balances sent asked → count p ≡ i → i < length (receipts_of c p)
    → is_at_own (receipt_at (receipts_of c p) i).at ≡ false → is_at_round (receipt_at (receipts_of c p) i).at ≡ false
    → Keeps b c m (with_count count p (i + 1)) balances sent asked
still_kept b c m count balances sent asked p i keeps here within own round_at =
    let r = receipt_at (receipts_of c p) i in
    Keeps-next b c m m count balances sent asked balances sent asked p i keeps here within keeps.money refl refl
    (λ q known. omega (arith, none (q == p) (is_at_own r.at) own))
    (λ q a known inside. omega (arith, none (q == p) (is_at_round r.at && is_payout_from a r.call) (ap (λ t. t && is_payout_from a r.call) round_at)))
  where
    none : (s t : Bool) → t ≡ false → one_if (s && t) ≡ 0
    none true t is = ap one_if is
    none false t is = refl

-- targets that are there bring nothing to an account that isn't
amount_for-beyond : (n a : ℕ) (targets : List TargetPair) → AreTargetsOn n targets → n ≤ a → amount_for a targets ≡ 0
amount_for-beyond n a [] known beyond = refl
amount_for-beyond n a (t ∷ ts) known beyond =
    let apart : (t.0 == a) ≡ false = ne_eqb t.0 a (λ e. omega (arith, e, known zero t (omega arith))) in
    let here : cond (t.0 == a) t.1 zero ≡ zero = ap (λ (u : Bool). cond u t.1 zero) apart in
    omega (arith, sum_by-cons (λ (u : TargetPair). cond (u.0 == a) u.1 0) t ts, here, amount_for-beyond n a ts (λ i d within. known (suc i) d (omega arith)) beyond)

-- a sum of nothing
sum_by-nothing : {X : Type 0} (f : X → ℕ) (xs : List X) → ((i : ℕ) (d : X) → i < length xs → f (get_or xs i d) ≡ 0) → sum_by f xs ≡ 0
sum_by-nothing f [] each = refl
sum_by-nothing f (x ∷ xs) each =
    omega (arith, sum_by-cons f x xs, each zero x (omega arith), sum_by-nothing f xs (λ i d within. each (suc i) d (omega arith)))

credit-beyond : (b : BookTerms) (c : ClosingTerms) (p a : ℕ) (prefix : List Publication) (e : Entry) → IsCoherentEntry b c p prefix e
    → length b.accounts ≤ a → credit_of a e ≡ 0
credit-beyond b c p a prefix (Entry.Own from targets) law beyond = amount_for-beyond (length b.accounts) a targets law.targets_in.accounts beyond
credit-beyond b c p a prefix (Entry.Round account number decision targets) law beyond =
    elim (cases_Bool decision.ok) as (λ _. cond decision.ok (amount_for a targets) zero ≡ zero) [
      | inl ok ↦ ap (λ (t : Bool). cond t (amount_for a targets) zero) ok ∙ amount_for-beyond (length b.accounts) a targets law.1.accounts beyond
      | inr refused ↦ ap (λ (t : Bool). cond t (amount_for a targets) zero) refused
    ]

-- an account that isn't there has nothing
credits-beyond : (b : BookTerms) (c : ClosingTerms) (m a : ℕ) → Coherent b c → length b.accounts ≤ a → credits a (take m (journal_order c)) ≡ 0
credits-beyond b c m a coherent beyond =
    let order = journal_order c in
    let weight : Publication → ℕ = λ x. credit_of a x.entry in
    let whole : credits a order ≡ 0 =
    sum_by-nothing weight (firsts order) (λ j d within.
    let there = (AreFirsts-journal_order b c (HasRounds-Coherent b c coherent)).stands j within in
    let x : Publication = publication_at order there.0 in
    let same : get_or (firsts order) j d ≡ x = get_or_default (firsts order) j d no_publication within ∙ sym there.2 in
    ap weight same ∙ credit-beyond b c x.process a (prefix_of x.view order) x.entry (IsCoherentEntry-journal_order b c there.0 coherent there.1) beyond) in
    elim (cases_lt m (length order)) as (λ _. credits a (take m order) ≡ 0) [
      | inl within ↦ omega (arith, sum_by-firsts-take_mono weight order m (length order) (omega arith), ap (credits a) (take_all (length order) order (omega arith)), whole)
      | inr all ↦ omega (arith, ap (credits a) (take_all m order all), whole)
    ]

-- the balance of an account at a prefix is what the state has
pub balance-Keeps : (b : BookTerms) (c : ClosingTerms) (m : ℕ) (count : ℕ → ℕ) (balances sent asked : List ℕ) (a : ℕ)
    → Coherent b c → Keeps b c m count balances sent asked → balance_after b (take m (journal_order c)) a ≡ get_or balances a 0
balance-Keeps b c m count balances sent asked a coherent keeps =
    elim (cases_lt a (length b.accounts)) as (λ _. balance_after b (take m (journal_order c)) a ≡ get_or balances a 0) [
      | inl within ↦ omega (arith, keeps.money.balanced a within)
      | inr beyond ↦
          let nothing : (account_of b a).opening ≡ 0 = ap (λ (t : AccountTerms). t.opening) (get_or-eq_default b.accounts no_account beyond) in
          omega (arith, nothing, credits-beyond b c m a coherent beyond, get_or-eq_default balances 0 {n = a} (omega (arith, keeps.money.accounts, beyond)))
    ]

-- a line that moved nothing is answered as its receipt says
pub still-answered : (b : BookTerms) (c : ClosingTerms) (m : ℕ) (done : ℕ → ℕ) (balances sent asked : List ℕ) (p i : ℕ) → Coherent b c
    → Keeps b c m done balances sent asked → p < b.processes → done p ≡ i → i < length (receipts_of c p)
    → still_at m (is_success (receipt_at (receipts_of c p) i).reply) (receipt_at (receipts_of c p) i).at
    → IsPlaced b p (journal_order c) (take i (receipts_of c p)) (receipt_at (receipts_of c p) i)
    → Answered b c m m done balances sent asked p i
still-answered b c m count balances sent asked p i coherent keeps known here within still (read account amount call reply cut) =
    let r = receipt_at (receipts_of c p) i in
    let l : LedgerState = ledger b balances sent asked in
    let at_m : place cut.view ≡ m = subst (still_at m (is_success r.reply)) cut.at still in
    let is : get_or balances account 0 ≡ amount =
    sym (balance-Keeps b c m count balances sent asked account coherent keeps) ∙ (ap (λ k. balance_after b (take k (journal_order c)) account) (sym at_m) ∙ cut.balance) in
    let told : Step = record { ledger = l; reply = r.reply } in
    record {
      balances2 = balances;
      sent2 = sent;
      asked2 = asked;
      stepped = ap (step l p) call ∙ (λ t. record { ledger = l; reply = ((λ u. Balance (is u)) ∙ sym reply) t });
      keeps = still_kept b c m count balances sent asked p i keeps here within (ap is_at_own cut.at) (ap is_at_round cut.at);
    }
still-answered b c m count balances sent asked p i coherent keeps known here within still (not_owner source targets call owner reply at) =
    let r = receipt_at (receipts_of c p) i in
    let l : LedgerState = ledger b balances sent asked in
    record {
      balances2 = balances;
      sent2 = sent;
      asked2 = asked;
      stepped = step-payout l p source targets r.call call ∙ (pay-not_owner l p source targets owner ∙ (λ t. record { ledger = l; reply = sym reply t }));
      keeps = still_kept b c m count balances sent asked p i keeps here within (ap is_at_own at) (ap is_at_round at);
    }
still-answered b c m count balances sent asked p i coherent keeps known here within still (full source targets call owner room reply at) =
    let r = receipt_at (receipts_of c p) i in
    let l : LedgerState = ledger b balances sent asked in
    let filled = is_full-Keeps b c m count balances sent asked p source i keeps here known (owner_within b p source owner) ∙ room in
    record {
      balances2 = balances;
      sent2 = sent;
      asked2 = asked;
      stepped = step-payout l p source targets r.call call ∙ (pay-full l p source targets owner filled ∙ (λ t. record { ledger = l; reply = sym reply t }));
      keeps = still_kept b c m count balances sent asked p i keeps here within (ap is_at_own at) (ap is_at_round at);
    }
still-answered b c m count balances sent asked p i coherent keeps known here within still (short source amount targets may single reply cut less) =
    let r = receipt_at (receipts_of c p) i in
    let l : LedgerState = ledger b balances sent asked in
    let at_m : place cut.view ≡ m = subst (still_at m (is_success r.reply)) cut.at still in
    let is : get_or balances source 0 ≡ amount =
    sym (balance-Keeps b c m count balances sent asked source coherent keeps) ∙ (ap (λ k. balance_after b (take k (journal_order c)) source) (sym at_m) ∙ cut.balance) in
    let free = is_full-Keeps b c m count balances sent asked p source i keeps here known (owner_within b p source may.owner) ∙ may.room in
    let same = after_short-single l p source targets (is_shared-single b source single) in
    record {
      balances2 = balances;
      sent2 = sent;
      asked2 = asked;
      stepped = step-payout l p source targets r.call may.call ∙ (pay-short l p source targets may.owner free (omega (arith, is, less))
          ∙ (λ t. record { ledger = same t; reply = sym reply t }));
      keeps = still_kept b c m count balances sent asked p i keeps here within (ap is_at_own cut.at) (ap is_at_round cut.at);
    }
still-answered b c m count balances sent asked p i coherent keeps known here within still (done source targets may single reply own) =
    absurd (subst (still_at m (is_success (receipt_at (receipts_of c p) i).reply)) own.at still)
still-answered b c m count balances sent asked p i coherent keeps known here within still (round source targets may shared so) =
    let r = receipt_at (receipts_of c p) i in
    let l : LedgerState = ledger b balances sent asked in
    let order = journal_order c in
    let refused = subst (still_at m (is_success r.reply)) so.at still in
    let not_ok : so.decision.ok ≡ false = refused_decision so.decision.ok (sym (ap is_success so.reply) ∙ refused.0) in
    let inside = owner_within b p source may.owner in
    let free = is_full-Keeps b c m count balances sent asked p source i keeps here known inside ∙ may.room in
    let state = IsInState-record b c so.position source so.round so.decision targets coherent so.within so.entry in
    let law : IsRunDecision b (order_state c) source so.round so.decision =
    subst (IsRunDecision b (order_state c) source so.round) state.decision ((HasRuns-journal_order b c coherent).decisions source so.round state.decided) in
    let less : get_or balances source 0 < amount_of targets =
    elim (cases_lt (get_or balances source 0) (amount_of targets)) as (λ _. get_or balances source 0 < amount_of targets) [
      | inl below ↦ below
      | inr enough ↦
          let covered : IsCovered b (take m order) source (amount_of targets) = omega (arith, enough, keeps.money.balanced source inside) in
          let there : IsCovered b (take so.decision.place order) source (amount_of (request_at ((order_state c).rows source so.decision.slot) so.decision.number).targets) =
          subst (λ (q : Request). IsCovered b (take so.decision.place order) source (amount_of q.targets)) (sym state.request)
          (subst (λ k. IsCovered b (take k order) source (amount_of targets)) (sym refused.1) covered) in
          absurd (cc (not_ok, law.ok.1 there))
    ] in
    let at = asked_position b p source in
    let asked2 = set asked at (get_or asked at 0 + 1) in
    let used = after_short-shared l p source targets shared in
    record {
      balances2 = balances;
      sent2 = sent;
      asked2 = asked2;
      stepped = step-payout l p source targets r.call may.call ∙ (pay-short l p source targets may.owner free less
          ∙ (λ t. record { ledger = used t; reply = sym (so.reply ∙ ap (λ u. cond u Done Short) not_ok) t }));
      keeps = Keeps-next b c m m count balances sent asked balances sent asked2 p i keeps here within keeps.money refl
          (length-set asked at (get_or asked at 0 + 1))
          (λ q other. omega (arith, none (q == p) (is_at_own r.at) (ap is_at_own so.at)))
          (λ q a other there.
          let asks : (is_at_round r.at && is_payout_from a r.call) ≡ (source == a) =
          (λ t. ap is_at_round so.at t && is_payout_from-payout a source targets r.call may.call t) in
          asked-set b asked p source q a keeps.askers known inside other there
          ∙ ap (λ t. get_or asked (asked_position b q a) 0 + one_if ((q == p) && t)) (sym asks));
    }
  where
    refused_decision : (ok : Bool) → is_success (cond ok Done Short) ≡ false → ok ≡ false
    refused_decision true is = absurd (cc is)
    refused_decision false is = refl

    none : (s t : Bool) → t ≡ false → one_if (s && t) ≡ 0
    none true t is = ap one_if is
    none false t is = refl
