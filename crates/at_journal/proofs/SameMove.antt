-- Which line moves a publication of the order: no two do.
use Rattle.std.proofs.Common.{◌≡◌, ℕ, ◌<◌, ◌==◌, ◌&&◌, true, List, length, get_or, take, refl, sym, ap, subst, ◌∙◌, arith}
use Rattle.std.specs.Prelude.{Some}
use Rattle.at_journal.proofs.Prelude.{eq-eqb, eqb-true, position-Some, count_by, Decision, AccountTerms, slot_in, BookTerms, account_of, TargetPair, publications_of-take, publication_at, is_own, is_round, publications_of, Entry, Publication, IsOwnAt, IsRoundAt, own_position-at, round_position-at, is_payout_from-payout, ClosingTerms, receipts_of, Coherent, journal_order, IsAtOwn, IsAtRound, MayPay, asks_in, is_at_own, is_at_round, is_payout_from, owns_in, receipt_at, own_position, round_position, Receipt}
use Rattle.at_journal.proofs.CountingLaws.{count_by-past}
use Rattle.at_journal.proofs.KeepLaws.{no_receipt}
use Rattle.at_journal.proofs.MoveLaws.{IsNewRound-first, own_entry}

-- a line that moves the publication at a position, by what its process has before it
pub data IsMove (b : BookTerms) (c : ClosingTerms) (p i m : ℕ) : Type 0 where
  of_own : (publication_at (journal_order c) m).process ≡ p → is_own (publication_at (journal_order c) m).entry ≡ true
      → is_at_own (receipt_at (receipts_of c p) i).at ≡ true
      → owns_in (take i (receipts_of c p)) ≡ count_by (λ x. is_own x.entry) (publications_of p (take m (journal_order c))) → IsMove b c p i m
  of_round : (a r : ℕ) (d : Decision) (targets : List TargetPair) → (publication_at (journal_order c) m).entry ≡ Entry.Round a r d targets
      → slot_in (account_of b a) p ≡ Some d.slot
      → (is_at_round (receipt_at (receipts_of c p) i).at && is_payout_from a (receipt_at (receipts_of c p) i).call) ≡ true
      → asks_in a (take i (receipts_of c p)) ≡ d.number → IsMove b c p i m

-- what an own receipt moves
pub IsMove-own : (b : BookTerms) (c : ClosingTerms) (p i m source : ℕ) (targets : List TargetPair)
    → (own : IsAtOwn p (journal_order c) (take i (receipts_of c p)) source targets (receipt_at (receipts_of c p) i))
    → own_position p own.number (journal_order c) ≡ m → IsMove b c p i m
IsMove-own b c p i m source targets own at_m =
    let order = journal_order c in
    let at : IsOwnAt p own.number order m = subst (IsOwnAt p own.number order) at_m (own_position-at p own.number order own.within) in
    let entry : (publication_at order m).entry ≡ Entry.Own source targets = ap (λ (y : Publication). y.entry) (sym (own_entry c p m own.number at)) ∙ own.entry in
    let before : publications_of p (take m order) ≡ take own.number (publications_of p order) =
    publications_of-take p m order ∙ ap (λ k. take k (publications_of p order)) at.before in
    of_own at.own (ap is_own entry) (ap is_at_own own.at) (sym own.next ∙ ap (count_by (λ (x : Publication). is_own x.entry)) (sym before))

-- what a receipt of a round moves, where it succeeded
pub IsMove-round : (b : BookTerms) (c : ClosingTerms) (p i m source : ℕ) (targets : List TargetPair) → Coherent b c
    → MayPay b p (take i (receipts_of c p)) source targets (receipt_at (receipts_of c p) i)
    → (so : IsAtRound b p (journal_order c) (take i (receipts_of c p)) source targets (receipt_at (receipts_of c p) i))
    → round_position source so.round (journal_order c) ≡ m → IsMove b c p i m
IsMove-round b c p i m source targets coherent may so at_m =
    let order = journal_order c in
    let r = receipt_at (receipts_of c p) i in
    let there : is_round source so.round (publication_at order so.position).entry ≡ true =
    ap (is_round source so.round) so.entry ∙ (λ t. eq-eqb source source refl t && eq-eqb so.round so.round refl t) in
    let at : IsRoundAt source so.round order m = subst (IsRoundAt source so.round order) at_m (round_position-at source so.round order so.position so.within there) in
    let first = IsNewRound-first b c m source so.round so.position so.decision targets coherent so.within so.entry at in
    of_round source so.round so.decision targets first.entry so.slot
    (λ t. ap is_at_round so.at t && (is_payout_from-payout source source targets r.call may.call ∙ eq-eqb source source refl) t)
    (sym so.next)

-- two lines of a process that move one publication are one
pub IsMove-same : (b : BookTerms) (c : ClosingTerms) (p i j m : ℕ) → i < length (receipts_of c p) → IsMove b c p i m → IsMove b c p j m → i < j → ⊥
IsMove-same b c p i j m within (of_own own is at before) (of_own own2 is2 at2 before2) less =
    omega (arith, before, before2, count_by-past (λ (r : Receipt). is_at_own r.at) (receipts_of c p) i j no_receipt within at less)
IsMove-same b c p i j m within (of_own own is at before) (of_round a r d targets entry slot asks number) less =
    absurd (cc (is, ap is_own entry))
IsMove-same b c p i j m within (of_round a r d targets entry slot asks number) (of_own own is at before) less =
    absurd (cc (is, ap is_own entry))
IsMove-same b c p i j m within (of_round a r d targets entry slot asks number) (of_round a2 r2 d2 targets2 entry2 slot2 asks2 number2) less =
    let same : Entry.Round a r d targets ≡ Entry.Round a2 r2 d2 targets2 = sym entry ∙ entry2 in
    let account : a ≡ a2 = cc same in
    let decision : d ≡ d2 = cc same in
    let counted : asks_in a (take j (receipts_of c p)) ≡ asks_in a2 (take j (receipts_of c p)) = ap (λ t. asks_in t (take j (receipts_of c p))) account in
    let numbers : d.number ≡ d2.number = ap (λ (e : Decision). e.number) decision in
    omega (
      arith,
      number,
      number2,
      counted,
      numbers,
      count_by-past (λ (q : Receipt). is_at_round q.at && is_payout_from a q.call) (receipts_of c p) i j no_receipt within asks less,
    )

-- a slot has one owner
pub same_owner : (t : AccountTerms) (p q slot : ℕ) → slot_in t p ≡ Some slot → slot_in t q ≡ Some slot → p ≡ q
same_owner t p q slot one two =
    let first = position-Some (λ owner. owner == p) t.owners slot 0 one in
    let second = position-Some (λ owner. owner == q) t.owners slot 0 two in
    sym (eqb-true (get_or t.owners slot 0) p first.1) ∙ eqb-true (get_or t.owners slot 0) q second.1

-- and so are their processes
pub IsMove-process : (b : BookTerms) (c : ClosingTerms) (p q i j m : ℕ) → IsMove b c p i m → IsMove b c q j m → p ≡ q
IsMove-process b c p q i j m (of_own own is at before) (of_own own2 is2 at2 before2) = sym own ∙ own2
IsMove-process b c p q i j m (of_own own is at before) (of_round a r d targets entry slot asks number) = absurd (cc (is, ap is_own entry))
IsMove-process b c p q i j m (of_round a r d targets entry slot asks number) (of_own own is at before) = absurd (cc (is, ap is_own entry))
IsMove-process b c p q i j m (of_round a r d targets entry slot asks number) (of_round a2 r2 d2 targets2 entry2 slot2 asks2 number2) =
    let same : Entry.Round a r d targets ≡ Entry.Round a2 r2 d2 targets2 = sym entry ∙ entry2 in
    let account : a ≡ a2 = cc same in
    let decision : d ≡ d2 = cc same in
    let slots : Some d.slot ≡ Some d2.slot = ap (λ (e : Decision). Some e.slot) decision in
    same_owner (account_of b a) p q d.slot slot ((λ t. slot_in (account_of b (account t)) q) ∙ (slot2 ∙ sym slots))
