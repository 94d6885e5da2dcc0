-- The costs of calls that were made on a closed ledger.
use Rattle.std.proofs.Common.{◌≡◌, ℕ, ◌<◌, All, List, [], length, get_or, sym, ap, subst, ◌∙◌, arith}
use Rattle.at_commands.proofs.Prelude.{get_or-map, length-map, IsPlayable, BoardTerms, BookTerms, IsCallOn, Call, calls_of, Receipt, ClosedTerms, PassTerms, IsPlayedNoting, HaveCosts, CostTerms, TakeCalls, length-TakeCalls}

-- receipts of calls on these accounts
known-calls_of : (accounts : ℕ) (receipts : List Receipt) → All (IsCallOn accounts) (calls_of receipts) → All (λ (r : Receipt). IsCallOn accounts r.call) receipts
known-calls_of accounts receipts known = λ i d within.
    subst (IsCallOn accounts) (get_or-map (λ (r : Receipt). r.call) receipts i d d.call within)
    (known i d.call (omega (arith, within, length-map receipts (λ (r : Receipt). r.call))))

module _ (b : BookTerms) (files : List (List Call)) (closed : ClosedTerms) (costs : List (List CostTerms)) (count : length files ≡ b.processes)
    (known : All (IsPlayable (length b.accounts)) files) (played : IsPlayedNoting b files closed costs) where
  known-at : (p : ℕ) → p < b.processes → All (λ (r : Receipt). IsCallOn (length b.accounts) r.call) (get_or closed.closing.receipts p [])
  known-at p below =
      let receipts : length closed.closing.receipts ≡ b.processes =
      sym (length-map closed.closing.receipts calls_of) ∙ (ap (λ (fs : List (List Call)). length fs) played.played.run.calls_are ∙ count) in
      let file : get_or files p [] ≡ calls_of (get_or closed.closing.receipts p []) =
      ap (λ (fs : List (List Call)). get_or fs p []) (sym played.played.run.calls_are)
      ∙ get_or-map calls_of closed.closing.receipts p [] [] (omega (arith, below, receipts)) in
      known-calls_of (length b.accounts) (get_or closed.closing.receipts p [])
      (subst (All (IsCallOn (length b.accounts))) file (known p [] (omega (arith, below, count))).known)

  processes : closed.ledger.book.processes ≡ b.processes
  processes = ap (λ (t : BookTerms). t.processes) played.ledger_is

  taken-at : (p : ℕ) → p < b.processes → (ledger : BoardTerms) × (before : PassTerms) × (after : PassTerms) × (ledger.book ≡ b)
      × TakeCalls ledger before (get_or closed.closing.receipts p []) (get_or costs p []) after
  taken-at p below =
      let taken = played.costed.each p (omega (arith, below, processes)) in
      (closed.ledger, taken.before, taken.after, played.ledger_is, taken.taken)

  pub HaveCosts-played : HaveCosts b closed.closing.receipts costs
  HaveCosts-played = record {
    receipts_count = sym (length-map closed.closing.receipts calls_of) ∙ (ap (λ (fs : List (List Call)). length fs) played.played.run.calls_are ∙ count);
    costs_count = played.costed.count ∙ processes;
    known = known-at;
    same = λ p below. let taken = taken-at p below in length-TakeCalls taken.0 taken.1 taken.2 (get_or closed.closing.receipts p []) (get_or costs p []) taken.4;
    taken = taken-at;
  }
