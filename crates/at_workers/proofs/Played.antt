-- A job whose first calls were made: how one call more keeps it, and what stands when all were made.
use Rattle.std.proofs.Common.{◌≡◌, ℕ, ◌+◌, ◌<◌, List, ◌∷◌, [], ◌++◌, length, get_or, set, take, refl, sym, ap, subst, ◌∙◌, arith, length-append, Option, Vec}
use Rattle.at_workers.proofs.Prelude.{get_or-map, length-map, length-take, map-append, take_all, take_more, take_more_set, Global, is_some, map-set_same, vec_capacity, BookTerms, IsCallOn, Call, Read, IsPrefix-refl, IsPrefix-trans, IsPrefix, BoardTerms, calls_of, Receipt, begins-CallMade, call-CallMade, process-CallMade, stands-CallMade, IsPassOf, PassTerms, Stands, past_receipts, past_receipts-more, CostTerms, IsCalled, TakeCalls, TakesCall, cost_of, costs_with, HasCosts, IsJob, IsReady, JobTerms, MakesNext, Ran}
use Rattle.std.specs.Prelude.{◌^◌, slice_index_or, All, IfSome}
use Rattle.at_workers.proofs.CostLaws.{AreNoted, AreNoted-more, AreNoted-none, TakeCalls-more, TakeCalls-none, is_some-costs_with}

-- the receipts stand with the pass still, with that of one more call
pub Stands-made : (before after : PassTerms) (earlier receipts : List Receipt) (r : Receipt) → Stands before earlier
    → ((list : List Receipt) → Stands before list → Stands after (list ++ r ∷ [])) → receipts ≡ earlier ++ r ∷ []
    → Stands after receipts
Stands-made before after earlier receipts r stands told made =
    let with : List Receipt → Type 0 = λ list. Stands after list in
    subst with (sym made) (told earlier stands)

-- a job whose first n calls were made, seen as its callers see it, of which others are left
module _ (ledger : BoardTerms) (pass : PassTerms) (list : List Receipt) (n : ℕ) (costs : Option (List CostTerms)) (job : JobTerms)
    (is : record { pass = pass; calls = calls_of list; receipts = take n list; costs = costs } ≡ job)
    (more : length job.receipts < length job.calls) (made : length (take n list) ≡ n) where
  -- the next one waits in the list
  pub next-within : n < length list
  next-within =
      omega (
        arith,
        more,
        ap (λ (t : JobTerms). length t.receipts) is,
        ap (λ (t : JobTerms). length t.calls) is,
        made,
        length-map list (λ (r : Receipt). r.call),
      )

  -- and names accounts as all do
  pub IsCallOn-next : (waits : Receipt) → IsPassOf job.pass ledger → All (IsCallOn (length pass.knows.book.accounts)) (calls_of list)
      → waits ≡ get_or list n waits → IsCallOn (length ledger.book.accounts) waits.call
  IsCallOn-next waits of all at =
      let was : IsPassOf pass ledger = subst (λ (t : JobTerms). IsPassOf t.pass ledger) (sym is) of in
      let on : BookTerms → Type 0 = λ b. IsCallOn (length b.accounts) waits.call in
      let here : get_or (calls_of list) n waits.call ≡ waits.call =
      get_or-map (λ (r : Receipt). r.call) list n waits waits.call next-within ∙ ap (λ (r : Receipt). r.call) (sym at) in
      subst on was.book
      (subst (IsCallOn (length pass.knows.book.accounts)) here (all n waits.call (omega (arith, next-within, length-map list (λ (r : Receipt). r.call)))))

-- one more cost is noted
pub HasCosts-noted : (earlier : List Receipt) (r : Receipt) (room : ℕ) (before after : Vec CostTerms Global) (cost : CostTerms)
    → HasCosts earlier room before → after.items ≡ before.items ++ cost ∷ [] → vec_capacity after ≡ vec_capacity before
    → HasCosts (earlier ++ r ∷ []) room after
HasCosts-noted earlier r room before after cost has noted same = record {
  count = omega (arith, ap length noted, length-append before.items (cost ∷ []), length-append earlier (r ∷ []), has.count);
  fits = omega (arith, has.fits, same);
}

-- the next call of the list, which waits at its place, was made with a pass that has the receipts of the first n
module _ (ledger : BoardTerms) (before after : PassTerms) (list : List Receipt) (n : ℕ) (waits r : Receipt)
    (costs costs_now : Option (List CostTerms)) (within : n < length list) (is : waits ≡ get_or list n waits)
    (called : IsCalled ledger before after waits.call r) where
  abbrev pub job_before : JobTerms
  job_before = record { pass = before; calls = calls_of list; receipts = take n list; costs = costs }

  abbrev pub job_after : JobTerms
  job_after = record { pass = after; calls = calls_of (set list n r); receipts = take (n + 1) (set list n r); costs = costs_now }

  same : r.call ≡ waits.call
  same = call-CallMade ledger.book before after waits.call r called.made

  unmoved : calls_of (set list n r) ≡ calls_of list
  unmoved = map-set_same (λ (x : Receipt). x.call) list n r waits (same ∙ ap (λ (x : Receipt). x.call) is)

  one_more : take (n + 1) (set list n r) ≡ take n list ++ r ∷ []
  one_more = take_more_set list n r within

  count : length (take (n + 1) (set list n r)) ≡ n + 1
  count = omega (arith, ap length one_more, length-append (take n list) (r ∷ []), length-take n list, within)

  long : length (calls_of list) ≡ length list
  long = length-map list (λ (x : Receipt). x.call)

  -- what the type of a job keeps
  pub IsJob-called : (notes notes_now : Option (Vec CostTerms Global)) → IsPassOf before ledger → IsJob job_before n notes
      → IfSome notes_now (HasCosts (take n list ++ r ∷ []) (length (calls_of list))) → IsJob job_after (n + 1) notes_now
  IsJob-called notes notes_now was kept noted =
      let on : BookTerms → Type 0 = λ b. All (IsCallOn (length b.accounts)) (calls_of list) in
      let more : length (calls_of (set list n r)) ≡ length (calls_of list) = ap length unmoved in
      record {
        calls_on = rw unmoved (subst on (was.book ∙ sym called.pass.book) kept.calls_on);
        few = omega (arith, more, kept.few);
        stands = rw one_more (stands-CallMade ledger.book before after waits.call r called.made (take n list) kept.stands);
        past = past_receipts-more before after r (take n list) called.past kept.past ∙ sym one_more;
        made_are = count;
        within = omega (arith, count, more, long, within);
        costs_fit = rw (unmoved, one_more) noted;
      }

  -- what is left of the job
  pub MakesNext-called : past_receipts before ≡ take n list → costs_now ≡ costs_with (cost_of before after) costs → MakesNext ledger job_before job_after
  MakesNext-called past noted = record {
    receipt = r;
    call_is = λ d. same ∙ ap (λ (x : Receipt). x.call) is
        ∙ sym (get_or-map (λ (x : Receipt). x.call) list n waits d within)
        ∙ ap (λ m. slice_index_or (calls_of list) m d) (omega (arith, length-take n list, within));
    called = subst (λ c. IsCalled ledger before after c r) (sym same) called;
    receipts_are = one_more;
    costs_are = noted;
    calls_are = unmoved;
    past = past_receipts-more before after r (take n list) called.past past ∙ sym one_more;
  }

-- so many calls of the job were made, the first ones
pub record HasPlayed (ledger : BoardTerms) (before after : JobTerms) (number : ℕ) : Type 0 where
  pub process_is : after.pass.knows.first ≡ before.pass.knows.first
  pub calls_are : after.calls ≡ before.calls
  pub count_is : length after.receipts ≡ number
  pub made : calls_of after.receipts ≡ take number before.calls
  pub stands : Stands after.pass after.receipts
  pub past : past_receipts after.pass ≡ after.receipts
  pub of_ledger : IsPassOf after.pass ledger
  pub begins : IsPrefix before.pass.knows.seen after.pass.knows.seen
  pub notes : is_some after.costs ≡ is_some before.costs
  pub costs : List CostTerms
  pub taken : TakeCalls ledger before.pass after.receipts costs after.pass
  pub noted : AreNoted after.costs costs

pub HasPlayed-none : (ledger : BoardTerms) (job : JobTerms) → IsReady ledger job → Stands job.pass job.receipts
    → past_receipts job.pass ≡ job.receipts → IfSome job.costs (λ list. length list ≡ length job.receipts) → HasPlayed ledger job job 0
HasPlayed-none ledger job ready stands past costed = record {
  process_is = refl;
  calls_are = refl;
  count_is = ap length ready.unmade;
  made = ap calls_of ready.unmade;
  stands = stands;
  past = past;
  of_ledger = ready.of_ledger;
  begins = IsPrefix-refl job.pass.knows.seen;
  notes = refl;
  costs = [];
  taken = TakeCalls-none ledger job.pass job.receipts ready.unmade;
  noted = AreNoted-none job.costs job.receipts ready.unmade costed;
}

-- one more call is made
pub HasPlayed-more : (ledger : BoardTerms) (before middle after : JobTerms) (number : ℕ) → HasPlayed ledger before middle number
    → number < length before.calls → MakesNext ledger middle after → HasPlayed ledger before after (number + 1)
HasPlayed-more ledger before middle after number played more next =
    let r : Receipt = next.receipt in
    let d : Call = Read 0 in
    let last : slice_index_or middle.calls (length middle.receipts) d ≡ slice_index_or before.calls number d =
    ap (λ xs. slice_index_or xs (length middle.receipts) d) played.calls_are ∙ ap (λ n. slice_index_or before.calls n d) played.count_is in
    let made = next.called.made in
    let cost : CostTerms = cost_of middle.pass after.pass in
    let takes : TakesCall ledger middle.pass after.pass r cost = record { called = next.called; cost_is = refl } in
    record {
      process_is = process-CallMade ledger.book middle.pass after.pass r.call r made ∙ played.process_is;
      calls_are = next.calls_are ∙ played.calls_are;
      count_is = ap length next.receipts_are ∙ (length-append middle.receipts (r ∷ []) ∙ ap (λ n. n + 1) played.count_is);
      made = ap calls_of next.receipts_are ∙ (map-append (λ (x : Receipt). x.call) middle.receipts (r ∷ [])
          ∙ (ap (λ xs. xs ++ r.call ∷ []) played.made
          ∙ (ap (λ c. take number before.calls ++ c ∷ []) (next.call_is d ∙ last) ∙ sym (take_more before.calls number d more))));
      stands = Stands-made middle.pass after.pass middle.receipts after.receipts r played.stands
          (stands-CallMade ledger.book middle.pass after.pass r.call r made) next.receipts_are;
      past = next.past;
      of_ledger = next.called.pass;
      begins = IsPrefix-trans before.pass.knows.seen middle.pass.knows.seen after.pass.knows.seen played.begins
          (begins-CallMade ledger.book middle.pass after.pass r.call r made);
      notes = ap is_some next.costs_are ∙ (is_some-costs_with (cost_of middle.pass after.pass) middle.costs ∙ played.notes);
      costs = played.costs ++ cost ∷ [];
      taken = rw next.receipts_are (TakeCalls-more ledger before.pass middle.pass after.pass middle.receipts played.costs r cost played.taken takes);
      noted = rw next.costs_are (AreNoted-more middle.costs played.costs cost played.noted);
    }

-- all calls were made
pub HasPlayed-all : (ledger : BoardTerms) (before after : JobTerms) (number : ℕ) → HasPlayed ledger before after number
    → length before.calls ≡ number → Ran ledger before after
HasPlayed-all ledger before after number played all = record {
  process_is = played.process_is;
  calls_are = played.calls_are;
  made = played.made ∙ take_all number before.calls (omega (arith, all));
  stands = played.stands;
  past = played.past;
  of_ledger = played.of_ledger;
  begins = played.begins;
  notes = played.notes;
  costs = played.costs;
  taken = played.taken;
  noted = played.noted;
}
