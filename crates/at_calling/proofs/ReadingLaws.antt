-- What a look lets a receipt be, when it ends.
use Rattle.std.proofs.Common.{◌≡◌, ℕ, ◌+◌, ◌-◌, ◌*◌, ◌<◌, ◌≤◌, List, get_or, length, refl, sym, ap, ◌∙◌, arith}
use Rattle.at_calling.proofs.Prelude.{sum, BookTerms, Read, Balance, balance_after, prefix_of, Knowledge, RECORD_WORDS, TotalSums, read, Cut, first-HasLoaded, published-HasLoaded, HasLooked, snapshot_steps, IsReadOf, LeavesTotals}

module _ (b : BookTerms) (v w : Knowledge) (was now : TotalSums) (cut : List ℕ) (looked : HasLooked b v w was now cut) where
  -- the receipt of a read that tells the balance of the cut
  pub IsReadOf-HasLooked : (account balance : ℕ) → balance ≡ balance_after b (prefix_of cut w.seen) account
      → IsReadOf b v w account (record { call = Read account; reply = Balance balance; at = Cut cut })
  IsReadOf-HasLooked account balance is = record {
    call = refl;
    reply = ap Balance is;
    placed = λ earlier. read account balance refl refl (record { view = cut; cut = looked.snapshot.cut; at = refl; balance = sym is });
    after_cut = λ previous. omega arith;
    snapshot = looked.snapshot;
    at_cut = record { at_cut = refl; loads = looked.loads };
  }

  -- what it leaves of totals, where no step comes after it
  pub LeavesTotals-HasLooked : (turns : ℕ) → 0 < length v.parts → turns ≤ snapshot_steps b.processes + RECORD_WORDS * (sum cut - sum was.upto)
      → LeavesTotals b v w was now 0 turns
  LeavesTotals-HasLooked turns part few =
      let published = published-HasLoaded b v w part looked.loads in
      let counted : sum now.upto ≡ sum cut = ap (λ xs. sum xs) looked.upto in
      record {
        more = omega (arith, published, counted, looked.more);
        own_counted =
            ap (λ xs. get_or xs w.first 0) looked.upto
            ∙ (ap (λ p. get_or cut p 0) (first-HasLoaded b v w looked.loads) ∙ (looked.snapshot.own ∙ sym published));
        few = omega (arith, few, published, counted);
      }
