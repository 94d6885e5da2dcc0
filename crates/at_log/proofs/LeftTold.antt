-- The receipts of what a ledger leaves account for all that their process has in the journal's order.
use Rattle.std.proofs.Common.{◌≡◌, ℕ, ◌<◌, List, length, take, sym, ap, subst, ◌∙◌}
use Rattle.at_log.proofs.Prelude.{count_by, BookTerms, TargetPair, one_if, BoardState, publication_at, is_own, names, publications_of, owns_of, Entry, Publication, ClosingTerms, receipts_of, journal_order, IsAtCut, IsAtOwn, IsAtRound, IsPlaced, read, not_owner, full, short, done, round, owns_in, receipt_at, Told, Receipt, IsLeft}
use Rattle.at_log.proofs.LeftEntries.{StandsIn-order, owns_of-publications_of}
use Rattle.at_log.proofs.LeftKeys.{keys-left}
use Rattle.at_log.proofs.OrderOfLeft.{AreTwins-left, IsHeldCut-receipt, balance_after-left, publications_of-left}
use Rattle.at_log.proofs.SameRecords.{sum_by-twins}

module _ (b : BookTerms) (s : BoardState) (c : ClosingTerms) (left : IsLeft b s c) (p : ℕ) (known : p < b.processes) where
  abbrev the_receipt : ℕ → Receipt
  the_receipt i = receipt_at (receipts_of c p) i

  -- a cut of the list is one of the order, with the same balance
  at_cut : (i account amount : ℕ) → i < length (receipts_of c p) → IsAtCut b s.published account amount (the_receipt i)
      → IsAtCut b (journal_order c) account amount (the_receipt i)
  at_cut i account amount within at =
      let cut = IsHeldCut-receipt b s c left p i at.view known within at.at in
      record { view = at.view; cut = cut.other; at = at.at; balance = sym (balance_after-left b s c left account at.view cut) ∙ at.balance }

  -- the own records of the process are the same
  at_own : (earlier : List Receipt) (source : ℕ) (targets : List TargetPair) (r : Receipt) → IsAtOwn p s.published earlier source targets r
      → IsAtOwn p (journal_order c) earlier source targets r
  at_own earlier source targets r at =
      let same : publications_of p s.published ≡ publications_of p (journal_order c) = sym (publications_of-left b s c left p known) in
      record {
        number = at.number;
        within = subst (λ (xs : List Publication). at.number < length xs) same at.within;
        at = at.at;
        entry = subst (λ (xs : List Publication). (publication_at xs at.number).entry ≡ Entry.Own source targets) same at.entry;
        next = subst (λ (xs : List Publication). count_by (λ x. is_own x.entry) (take at.number xs) ≡ owns_in earlier) same at.next;
      }

  -- and a record of a round stands somewhere in the order too
  at_round : (earlier : List Receipt) (source : ℕ) (targets : List TargetPair) (r : Receipt) → IsAtRound b p s.published earlier source targets r
      → IsAtRound b p (journal_order c) earlier source targets r
  at_round earlier source targets r at =
      let stands = StandsIn-order b s c left at.position at.within in
      record {
        round = at.round;
        decision = at.decision;
        position = stands.0;
        within = stands.1;
        at = at.at;
        entry = ap (λ (x : Publication). x.entry) stands.2 ∙ at.entry;
        slot = at.slot;
        next = at.next;
        reply = at.reply;
      }

  placed_in_order : (i : ℕ) → i < length (receipts_of c p) → IsPlaced b p s.published (take i (receipts_of c p)) (the_receipt i)
      → IsPlaced b p (journal_order c) (take i (receipts_of c p)) (the_receipt i)
  placed_in_order i within (read account amount call reply at) = read account amount call reply (at_cut i account amount within at)
  placed_in_order i within (not_owner source targets call owner reply at) = not_owner source targets call owner reply at
  placed_in_order i within (full source targets call owner room reply at) = full source targets call owner room reply at
  placed_in_order i within (short source amount targets may single reply at less) =
      short source amount targets may single reply (at_cut i source amount within at) less
  placed_in_order i within (done source targets may single reply at) =
      done source targets may single reply (at_own (take i (receipts_of c p)) source targets (the_receipt i) at)
  placed_in_order i within (round source targets may shared at) =
      round source targets may shared (at_round (take i (receipts_of c p)) source targets (the_receipt i) at)

  pub told-left : Told b p (journal_order c) (receipts_of c p)
  told-left =
      let told = left.told p known in
      record {
        placed = λ i within. placed_in_order i within (told.placed i within);
        keys = keys-left b s c left p known;
        owns =
            sym (owns_of-publications_of p (journal_order c))
            ∙ (ap (owns_of p) (publications_of-left b s c left p known) ∙ (owns_of-publications_of p s.published ∙ told.owns));
        asks = λ account slot has.
            sym (sum_by-twins b.processes s.published (journal_order c) (AreTwins-left b s c left) (λ e. one_if (names account slot e)) left.history.agree)
            ∙ told.asks account slot has;
      }
