-- Places in the order of their processes.
use Rattle.std.proofs.Common.{◌≡◌, ℕ, ◌/◌, ◌%◌, List, [], ◌∷◌, ◌++◌, length, sym, ap, subst, arith, inl, inr, length-append}
use Rattle.at_c.proofs.Prelude.{get_or-append, get_or-append_seam, cases_lt, BoardTerms, AreOwned, IsOwned, Owner}
use Rattle.std.specs.Prelude.{slice_index_or}

pub AreOwned-push : (ledger : BoardTerms) (each : ℕ) (places places_now : List Owner) (o : Owner) → AreOwned ledger each places
    → IsOwned ledger (length places / each) (length places % each) o → places_now ≡ places ++ o ∷ [] → AreOwned ledger each places_now
AreOwned-push ledger each places places_now o owned last more i d inside =
    subst (λ (list : List Owner). IsOwned ledger (i / each) (i % each) (slice_index_or list i d)) (sym more)
    (elim (cases_lt i (length places)) as (λ _. IsOwned ledger (i / each) (i % each) (slice_index_or (places ++ o ∷ []) i d)) [
      | inl below ↦ rw (get_or-append places (o ∷ []) d i below) (owned i d below)
      | inr above ↦
          let at : length places ≡ i = omega (arith, above, inside, ap length more, length-append places (o ∷ [])) in
          subst (λ k. IsOwned ledger (k / each) (k % each) (slice_index_or (places ++ o ∷ []) k d)) at
          (subst (λ (x : Owner). IsOwned ledger (length places / each) (length places % each) x) (sym (get_or-append_seam places o [] d)) last)
    ])
