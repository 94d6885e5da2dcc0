-- What a helping may propose for a cut: of the requests that are unsettled there the oldest.
use Rattle.std.proofs.Common.{◌≡◌, ◌↔◌, ℕ, ◌<◌, ◌≤◌, Bool, true, false, List, length, refl, sym, ap, subst, ◌∙◌, arith, inl, inr}
use Rattle.at_payments.proofs.Prelude.{length-take, All-contains, All, Contains, slots_of, BookTerms, IsBook, account_of, amount_of, most_owners, place-IsCut-le, ArePublishedBy-IsHistory, named-unsettled, unsettled-named, balance_after, request_at, IsCut, place, prefix_of, IsHistory, is_settled, rounds, Publication, Request, RequestInRange, SeesInRange, IsCandidate, asking_on, own_part, seen_as, MayPropose, Knowledge, IsOldest-IsOldestOf, MayChoose, IsBefore, IsNotDone, IsOldestOf, request_of, seen_of, OpenRequest, HelpingTerms, IsHelpingAt, AreDone}

MayChoose-IsHelpingAt : (b : BookTerms) (v : Knowledge) (list : List Publication) (h : HelpingTerms) → IsHelpingAt b v list h
    → MayChoose (asking_on (own_part v) h.account) h.own.slot list h.account h.asked
MayChoose-IsHelpingAt b v list h is =
    let a = h.account in
    let row : List Request = (asking_on (own_part v) a).announced in
    record {
      each = λ y (x, there, same). subst (IsCandidate (asking_on (own_part v) a) a h.own.slot) (sym same) (is.candidates x there);
      own_in = λ number last.
          let here : number ≡ h.own.number = omega (arith, last, is.asked.last) in (
            h.own,
            is.own_in,
            ap (λ n. seen_as a h.own.slot n (request_at row n)) here ∙ ap (seen_as a h.own.slot h.own.number) is.asked.same,
          );
      words = is.loaded;
    }

module _ (b : BookTerms) (v : Knowledge) (h : HelpingTerms) (cut done : List ℕ) (history : IsHistory b v.seen) (is_cut : IsCut b.processes cut v.seen)
    (helping : IsHelpingAt b v (prefix_of cut v.seen) h) (unsettled : is_settled h.account h.own.slot h.own.number (prefix_of cut v.seen) ≡ false)
    (are : AreDone b (prefix_of cut v.seen) h.account done) where
  within : place cut ≤ length v.seen
  within = place-IsCut-le b.processes cut v.seen is_cut (ArePublishedBy-IsHistory b v.seen history)

  tells : (y : OpenRequest) → Contains h.asked y → IsNotDone done y ↔ (is_settled h.account y.slot y.number (prefix_of cut v.seen) ≡ false)
  tells y there =
      let slot_in = All-contains (λ (x : OpenRequest). x.slot < slots_of (account_of b h.account)) h.asked y helping.slots there in
      let counted = are.settled y.slot slot_in in (
        (λ left. unsettled-named b v.seen (place cut) h.account y.slot y.number history within (omega (arith, left, counted))),
        (λ not. omega (arith, named-unsettled b v.seen (place cut) h.account y.slot y.number history within not, counted)),
      )

  -- the own request is left, so the oldest can be asked for
  pub own_left : IsNotDone done h.own
  own_left = (tells h.own helping.own_in).1 unsettled

  pub slots_in : All (λ x. x.slot < length done) h.asked
  slots_in = λ i d inside. omega (arith, helping.slots i d inside, are.sized)

  since-IsBefore : (x y : OpenRequest) → IsBefore x y → x.since ≤ y.since
  since-IsBefore x y (inl older) = omega (arith, older)
  since-IsBefore x y (inr (as_old, slots)) = omega (arith, as_old)

  pub MayPropose-IsOldestOf : (x : OpenRequest) (ok : Bool) → IsBook b → v.book ≡ b → SeesInRange v → slots_of (account_of b h.account) ≤ most_owners
      → IsOldestOf h.asked done x → (ok ≡ true) ↔ (amount_of x.targets ≤ balance_after b (prefix_of cut v.seen) h.account)
      → MayPropose b v h.account (rounds h.account (prefix_of cut v.seen)) (record { ok = ok; slot = x.slot; number = x.number; place = place cut })
      (request_of x)
  MayPropose-IsOldestOf x ok book same range few oldest enough =
      let a = h.account in
      let list = prefix_of cut v.seen in
      let sees = helping.seen x oldest.among in
      let slot_in = All-contains (λ (y : OpenRequest). y.slot < slots_of (account_of b a)) h.asked x helping.slots oldest.among in
      let words = (All-contains (RequestInRange v.book) v.requests (seen_of a x) range.requests sees).words in
      let room = ap (λ (t : BookTerms). t.request_room) same in
      let covered = (history.runs (place cut) within).covered a helping.asked.slot_in.account_in in
      record {
        range = record {
          slot = omega (arith, slot_in, few);
          number = omega (arith, words.2, room, book.begun.request_room);
          place = omega (arith, within, history.few);
        };
        place = within;
        next = refl;
        named = sees;
        since = omega (arith, since-IsBefore x h.own (oldest.first h.own helping.own_in own_left), helping.since, length-take (place cut) v.seen);
        ok = ((λ is. omega (arith, enough.0 is, covered)), (λ is. enough.1 (omega (arith, is, covered))));
        free = helping.free;
        own = h.own.slot;
        asking = record { loaded = helping.collected; number = h.own.number; last = helping.asked.last; unsettled = unsettled };
        oldest = IsOldest-IsOldestOf (asking_on (own_part v) a) h.own.slot a list h.asked done x (MayChoose-IsHelpingAt b v list h helping) tells oldest;
      }
