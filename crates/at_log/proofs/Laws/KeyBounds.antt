-- No line's key is above twice the number of publications.
use Rattle.std.proofs.Common.{◌≡◌, ℕ, ◌+◌, ◌*◌, ◌<◌, ◌≤◌, ◌&&◌, zero, suc, true, cond, List, length, take, refl, ap, subst, ◌∙◌, arith, inl, inr}
use Rattle.at_log.proofs.Prelude.{cases_Bool, eq-eqb, get_or_default, BookTerms, place-IsCut-le, publication_at, is_round, IsCut, place, prefix_of, ArePublishedBy, no_publication, Publication, ClosingTerms, receipts_of, Coherent, journal_order, line_key, IsPlaced, read, not_owner, full, short, done, round, is_success, receipt_at, first_account, key_at, key_of, round_position}
use Rattle.at_log.proofs.Laws.OrderPremises.{HasViews-Coherent}
use Rattle.at_log.proofs.Laws.Keys.{line_key-receipt}
use Rattle.at_log.proofs.Laws.Positions.{own_position-at, round_position-at}
use Rattle.at_log.proofs.Laws.Replies.{first_account-payout}
use Rattle.at_log.proofs.Laws.Order.{ArePublishedBy-journal_order}
use Rattle.at_log.proofs.Laws.OrderRounds.{IsCoherentEntry-journal_order, place-view-journal_order, round_entry}

-- a cut of the order is of some of its publications
cut-le : (b : BookTerms) (c : ClosingTerms) (view : List ℕ) → Coherent b c → IsCut b.processes view (journal_order c) → place view ≤ length (journal_order c)
cut-le b c view coherent cut =
    place-IsCut-le b.processes view (journal_order c) cut (subst (λ n. ArePublishedBy n (journal_order c)) coherent.logs (ArePublishedBy-journal_order c))

key-le : (b : BookTerms) (c : ClosingTerms) (p i previous : ℕ) → Coherent b c → previous ≤ 2 * length (journal_order c)
    → IsPlaced b p (journal_order c) (take i (receipts_of c p)) (receipt_at (receipts_of c p) i)
    → key_of p (journal_order c) previous (receipt_at (receipts_of c p) i) ≤ 2 * length (journal_order c)
key-le b c p i previous coherent before (read account amount call reply cut) =
    let r = receipt_at (receipts_of c p) i in
    let key = ap (key_at p (journal_order c) previous r.call (is_success r.reply)) cut.at in
    omega (arith, key, cut-le b c cut.view coherent cut.cut)
key-le b c p i previous coherent before (not_owner source targets call owner reply at) =
    let r = receipt_at (receipts_of c p) i in
    let key = ap (key_at p (journal_order c) previous r.call (is_success r.reply)) at in
    omega (arith, key, before)
key-le b c p i previous coherent before (full source targets call owner room reply at) =
    let r = receipt_at (receipts_of c p) i in
    let key = ap (key_at p (journal_order c) previous r.call (is_success r.reply)) at in
    omega (arith, key, before)
key-le b c p i previous coherent before (short source amount targets may single reply cut less) =
    let r = receipt_at (receipts_of c p) i in
    let key = ap (key_at p (journal_order c) previous r.call (is_success r.reply)) cut.at in
    omega (arith, key, cut-le b c cut.view coherent cut.cut)
key-le b c p i previous coherent before (done source targets may single reply own) =
    let r = receipt_at (receipts_of c p) i in
    let key = ap (key_at p (journal_order c) previous r.call (is_success r.reply)) own.at in
    omega (arith, key, (own_position-at p own.number (journal_order c) own.within).within)
key-le b c p i previous coherent before (round source targets may shared so) =
    let order = journal_order c in
    let r = receipt_at (receipts_of c p) i in
    let x : Publication = publication_at order so.position in
    let here = ap (key_at p order previous r.call (is_success r.reply)) so.at in
    let pos = round_position (first_account r.call) so.round order in
    let there : is_round source so.round x.entry ≡ true = ap (is_round source so.round) so.entry ∙ (λ t. eq-eqb source source refl t && eq-eqb so.round so.round refl t) in
    let at_source : pos ≡ round_position source so.round order = ap (λ a. round_position a so.round order) (first_account-payout source targets r.call may.call) in
    let first = round_position-at source so.round order so.position so.within there in
    let law = round_entry b c x.process (prefix_of x.view order) x.entry source so.round so.decision targets (IsCoherentEntry-journal_order b c so.position coherent so.within) so.entry in
    let proposed = law.3 in
    let k = proposed.published.0 in
    let winner_is : publication_at order k ≡ proposed.winner = get_or_default order k no_publication proposed.winner proposed.published.1 ∙ proposed.published.2 in
    let small : so.decision.place < length order =
    omega (arith, place-view-journal_order b c k (HasViews-Coherent b c coherent) proposed.published.1, proposed.published.1, ap (λ (y : Publication). place y.view) winner_is, proposed.place) in
    elim (cases_Bool (is_success r.reply)) as (λ _. key_of p order previous r ≤ 2 * length order) [
      | inl moved ↦ omega (arith, here, ap (λ t. cond t (2 * pos + 1) (2 * so.decision.place)) moved, at_source, first.within)
      | inr refused ↦ omega (arith, here, ap (λ t. cond t (2 * pos + 1) (2 * so.decision.place)) refused, small)
    ]

-- so no key is larger
pub line_key-le : (b : BookTerms) (c : ClosingTerms) (p i : ℕ) → Coherent b c → p < b.processes → i < length (receipts_of c p)
    → line_key c p i ≤ 2 * length (journal_order c)
line_key-le b c p zero coherent known within =
    omega (arith, line_key-receipt c p 0 within, key-le b c p 0 0 coherent (omega arith) ((coherent.told p known).placed 0 within))
line_key-le b c p (suc i) coherent known within =
    let before = line_key-le b c p i coherent known (omega (arith, within)) in
    omega (arith, line_key-receipt c p (suc i) within, key-le b c p (suc i) (line_key c p i) coherent before ((coherent.told p known).placed (suc i) within))
