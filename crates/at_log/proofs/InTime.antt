-- The journal's order of what a ledger leaves keeps the time of its list: a call's look, at a held cut, divides both alike.
use Rattle.std.proofs.Common.{◌≡◌, ℕ, ◌+◌, ◌*◌, ◌≤◌, ◌<◌, false, cond, List, length, get_or, sym, ap, subst, ◌∙◌, arith, inl, inr, suc, take}
use Rattle.at_log.proofs.Prelude.{cases_Bool, BookTerms, TargetPair, first_account, payout_of, get_or-publications_of, BoardState, publication_at, is_own, place, count_of, no_publication, publications_of, Publication, ClosingTerms, receipts_of, KeepsTime, look_at, journal_order, line_key, IsAtCut, IsAtOwn, IsAtRound, IsPlaced, read, not_owner, full, short, done, round, is_success, receipt_at, key_at, keys_of, own_position, round_position, At, Receipt, IsLeft}
use Rattle.std.specs.Prelude.{Some}
use Rattle.at_log.proofs.Laws.Keys.{key_at-even, line_key-receipt, previous_key, still_at}
use Rattle.at_log.proofs.Laws.Positions.{own_position-at}
use Rattle.at_log.proofs.Laws.Replies.{first_account-payout}
use Rattle.at_log.proofs.LeftKeys.{TheMark, key_at_mark, keys-linked, round_mark}
use Rattle.at_log.proofs.Marks
use Rattle.at_log.proofs.Marks.{IsOwnMark, IsRoundMark, behind_place-order, behind_view, key_in-order, winner_cut, winner_place, winner_view}
use Rattle.at_log.proofs.OrderOfLeft.{IsHeldCut, IsHeldCut-receipt, IsHeldCut-view}

module _ (b : BookTerms) (s : BoardState) (c : ClosingTerms) (left : IsLeft b s c) where
  abbrev the_receipt : ℕ → ℕ → Receipt
  the_receipt p i = receipt_at (receipts_of c p) i

  -- all that stands at this place of the list or before it stands so in the journal's order
  abbrev Divides : ℕ → Type 0
  Divides at = (p : ℕ) (known : p < b.processes) (h : TheMark b s c left p known) → key_at_mark b s c left p known s.published h ≤ 2 * at
      → key_at_mark b s c left p known (journal_order c) h ≤ 2 * at

  -- a held cut divides the two lists so
  Divides-cut : (view : List ℕ) → IsHeldCut b s c left view → Divides (place view)
  Divides-cut view cut p known h before = key_in-order b s c left p known h (Marks.still view cut) before

  -- and so does their beginning, where nothing has moved
  Divides-zero : Divides 0
  Divides-zero p known (Marks.still view cut) before = before
  Divides-zero p known (Marks.own number so) before = absurd (omega (arith, before))
  Divides-zero p known (Marks.round a r d so) before = absurd (omega (arith, before))

  module _ (q j : ℕ) (known : q < b.processes) (within : j < length (receipts_of c q)) where
    -- the look of a receipt that stands here divides the two lists, and in the journal's order the receipt stands behind it
    abbrev IsBehindLook : At → Type 0
    IsBehindLook at =
        Divides (look_at q s.published at)
        × (2 * look_at q s.published at ≤ key_at q (journal_order c) (previous_key c q j) (the_receipt q j).call (is_success (the_receipt q j).reply) at)

    behind_cut : (account amount : ℕ) → IsAtCut b s.published account amount (the_receipt q j) → IsBehindLook (the_receipt q j).at
    behind_cut account amount so =
        subst IsBehindLook (sym so.at) (Divides-cut so.view (IsHeldCut-receipt b s c left q j so.view known within so.at), omega arith)

    -- an own record's look is its view
    view_is : (number : ℕ) → number < count_of q s.published
        → (publication_at s.published (own_position q number s.published)).view ≡ (publication_at (publications_of q s.published) number).view
    view_is number inside =
        let at = own_position-at q number s.published inside in
        ap (λ (x : Publication). x.view)
        (sym (get_or-publications_of q (own_position q number s.published) s.published no_publication at.within at.own)
        ∙ ap (publication_at (publications_of q s.published)) at.before)

    behind_own : (earlier : List Receipt) (source : ℕ) (targets : List TargetPair) → IsAtOwn q s.published earlier source targets (the_receipt q j)
        → IsBehindLook (the_receipt q j).at
    behind_own earlier source targets so =
        let m = own_position q so.number s.published in
        let view = (publication_at (publications_of q s.published) so.number).view in
        let is = view_is so.number so.within in
        let cut = IsHeldCut-view b s c left m (own_position-at q so.number s.published so.within).within in
        let mark : IsOwnMark b s c left q known so.number = record { within = so.within; own = ap is_own so.entry } in
        subst IsBehindLook (sym so.at)
        (Divides-cut view (subst (IsHeldCut b s c left) is cut), omega (arith, ap place is, (behind_view b s c left q known so.number mark).1))

    -- a round's look is the view from which its decision was proposed
    behind_round : (source : ℕ) (targets : List TargetPair) → payout_of (the_receipt q j).call ≡ Some (source, targets)
        → IsAtRound b q s.published (take j (receipts_of c q)) source targets (the_receipt q j) → IsBehindLook (the_receipt q j).at
    behind_round source targets call so =
        let r = the_receipt q j in
        let d = so.decision in
        let mark = round_mark b s c left q known source targets (take j (receipts_of c q)) r so in
        let place_is = winner_place b s c left q known source so.round d mark in
        let key = 2 * round_position (first_account r.call) so.round (journal_order c) + 1 in
        let key_is : key ≡ 2 * round_position source so.round (journal_order c) + 1 =
        ap (λ a. 2 * round_position a so.round (journal_order c) + 1) (first_account-payout source targets r.call call) in
        subst IsBehindLook (sym so.at) (
          subst Divides place_is (Divides-cut (winner_view b s c left q known source so.round d mark) (winner_cut b s c left q known source so.round d mark)),
          elim (cases_Bool (is_success r.reply)) as (λ _. 2 * d.place ≤ cond (is_success r.reply) key (2 * d.place)) [
            | inl moved ↦
                omega (arith, ap (λ t. cond t key (2 * d.place)) moved, key_is, behind_place-order b s c left q known source so.round d mark)
            | inr refused ↦ omega (arith, ap (λ t. cond t key (2 * d.place)) refused)
          ],
        )

    behind_none : (the_receipt q j).at ≡ At.Previous → IsBehindLook (the_receipt q j).at
    behind_none at = subst IsBehindLook (sym at) (Divides-zero, omega arith)

    behind_look : IsPlaced b q s.published (take j (receipts_of c q)) (the_receipt q j) → IsBehindLook (the_receipt q j).at
    behind_look (read account amount call reply at) = behind_cut account amount at
    behind_look (not_owner source targets call owner reply at) = behind_none at
    behind_look (full source targets call owner room reply at) = behind_none at
    behind_look (short source amount targets may single reply at less) = behind_cut source amount at
    behind_look (done source targets may single reply so) = behind_own (take j (receipts_of c q)) source targets so
    behind_look (round source targets may shared so) = behind_round source targets may.call so

    -- a receipt that stands at the prefix of a length has moved nothing
    refused_at : (m : ℕ) → still_at m (is_success (the_receipt q j).reply) (the_receipt q j).at
        → IsPlaced b q s.published (take j (receipts_of c q)) (the_receipt q j) → is_success (the_receipt q j).reply ≡ false
    refused_at m still (read account amount call reply at) = ap is_success reply
    refused_at m still (not_owner source targets call owner reply at) = ap is_success reply
    refused_at m still (full source targets call owner room reply at) = ap is_success reply
    refused_at m still (short source amount targets may single reply at less) = ap is_success reply
    refused_at m still (done source targets may single reply so) = absurd (subst (still_at m (is_success (the_receipt q j).reply)) so.at still)
    refused_at m still (round source targets may shared so) = (subst (still_at m (is_success (the_receipt q j).reply)) so.at still).0

    -- so has one whose key is even
    refused-even : (m : ℕ) → line_key c q j ≡ 2 * m → is_success (the_receipt q j).reply ≡ false
    refused-even m even =
        let r = the_receipt q j in
        refused_at m
        (key_at-even m q (journal_order c) (previous_key c q j) r.call (is_success r.reply) r.at (sym (line_key-receipt c q j within) ∙ even))
        ((left.told q known).placed j within)

  -- a receipt up to a place that divides the two lists stands up to it in the journal's order
  up_to : (at p i : ℕ) → Divides at → p < b.processes → i < length (receipts_of c p)
      → get_or (keys_of p s.published (receipts_of c p)) i 0 ≤ 2 * at → line_key c p i ≤ 2 * at
  up_to at p i divides known within before =
      elim (keys-linked b s c left p known (suc i) (omega (arith, within))) as (λ _. line_key c p i ≤ 2 * at) [
        | inl none ↦ omega (arith, none)
        | inr found ↦ omega (arith, found.2, divides p known found.0 (omega (arith, before, found.1)))
      ]

  -- what stood before another call looked isn't behind it
  pub KeepsTime-IsLeft : KeepsTime s.published c
  KeepsTime-IsLeft p i q j length_between p_in i_in q_in j_in before looked =
      let p_known : p < b.processes = omega (arith, p_in, left.receipts) in
      let q_known : q < b.processes = omega (arith, q_in, left.receipts) in
      let at = look_at q s.published (the_receipt q j).at in
      let behind = behind_look q j q_known j_in ((left.told q q_known).placed j j_in) in
      let first : line_key c p i ≤ 2 * at = up_to at p i behind.0 p_known i_in (omega (arith, before, looked)) in
      let second : 2 * at ≤ line_key c q j = omega (arith, behind.1, line_key-receipt c q j j_in) in
      record {
        key = omega (arith, first, second);
        still = λ same. (
          refused-even p i p_known i_in at (omega (arith, first, second, same)),
          refused-even q j q_known j_in at (omega (arith, first, second, same)),
        );
      }
