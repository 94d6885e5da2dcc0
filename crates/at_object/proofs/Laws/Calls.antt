-- What a call leaves of its pass, whichever call it is: the fields that payments and reads have alike.
use Rattle.std.proofs.Common.{◌≡◌, ◌≤◌, ◌++◌, List, [], ◌∷◌, map, ap, ◌∙◌}
use Rattle.at_object.proofs.Prelude.{BookTerms, Call, Pay, Read, Transfer, IsPrefix, IsPlaced, map-append, Receipt, CallMade, PassTerms, PastCall, Stands, others_counted, past_call, past_receipts}

module _ (b : BookTerms) (before after : PassTerms) where
  -- the receipt has the call
  pub call-CallMade : (call : Call) (r : Receipt) → CallMade b before after call r → r.call ≡ call
  call-CallMade (Transfer from to amount) r made = made.call_is
  call-CallMade (Read account) r made = made.call_is
  call-CallMade (Pay from targets) r made = made.call_is

  -- it is right after the earlier ones, and stands with them
  pub placed-CallMade : (call : Call) (r : Receipt) → CallMade b before after call r
      → (earlier : List Receipt) → Stands before earlier → IsPlaced b before.knows.first after.knows.seen earlier r
  placed-CallMade (Transfer from to amount) r made = made.placed
  placed-CallMade (Read account) r made = made.placed
  placed-CallMade (Pay from targets) r made = made.placed

  pub stands-CallMade : (call : Call) (r : Receipt) → CallMade b before after call r
      → (earlier : List Receipt) → Stands before earlier → Stands after (earlier ++ r ∷ [])
  stands-CallMade (Transfer from to amount) r made = made.stands
  stands-CallMade (Read account) r made = made.stands
  stands-CallMade (Pay from targets) r made = made.stands

  -- what was seen is still seen, by the same process
  pub begins-CallMade : (call : Call) (r : Receipt) → CallMade b before after call r → IsPrefix before.knows.seen after.knows.seen
  begins-CallMade (Transfer from to amount) r made = made.begins
  begins-CallMade (Read account) r made = made.begins
  begins-CallMade (Pay from targets) r made = made.begins

  pub process-CallMade : (call : Call) (r : Receipt) → CallMade b before after call r → after.knows.first ≡ before.knows.first
  process-CallMade (Transfer from to amount) r made = made.process_is
  process-CallMade (Read account) r made = made.process_is
  process-CallMade (Pay from targets) r made = made.process_is

  -- and no record that was counted is lost
  pub counted-CallMade : (call : Call) (r : Receipt) → CallMade b before after call r → others_counted before ≤ others_counted after
  counted-CallMade (Transfer from to amount) r made = made.counted
  counted-CallMade (Read account) r made = made.counted
  counted-CallMade (Pay from targets) r made = made.counted

-- one more call of a pass, one more receipt
pub past_receipts-more : (before after : PassTerms) (r : Receipt) (receipts : List Receipt) → after.past ≡ before.past ++ past_call before after r ∷ []
    → past_receipts before ≡ receipts → past_receipts after ≡ receipts ++ r ∷ []
past_receipts-more before after r receipts past were =
    ap (λ (calls : List PastCall). map (λ (c : PastCall). c.receipt) calls) past
    ∙ (map-append (λ (c : PastCall). c.receipt) before.past (past_call before after r ∷ []) ∙ ap (λ (list : List Receipt). list ++ r ∷ []) were)
