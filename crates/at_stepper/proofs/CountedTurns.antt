-- Each answered call of a run has taken counts that its own turns have loaded, or borrowed ones. So the turns have made the
-- run's closing.
use Rattle.std.proofs.Common.{◌≡◌, ◌≢◌, ℕ, ◌+◌, ◌<◌, ◌==◌, true, List, [], ◌∷◌, ◌++◌, Bool, cond, Option, None, Some, length, get_or, map, refl, sym, ap, subst, ◌∙◌, arith, inl, inr}
use Rattle.std.specs.Prelude.{is_some}
use Rattle.at_stepper.proofs.Prelude.{cases_eq, cases_lt, eq-eqb, ne_eqb, length_push, BookTerms, Call, IsPrefix-count_of, IsPrefix, count_of, Publication, loads_of, own_part, SeatTerms, Loads, ClosingTerms, receipts_of, receipt_at, Own, Previous, Receipt, PassTerms, length_loaded, CallerTerms, IsTurned, answers_in, CountsLoads, IsLastLoad, IsMadeAs, IsMadeByTurns, LooksWithin, PublishInOrder, RunsTo, length_loaded_in, published_by_then, goes_on, starts, answered_by, ChangesOne, IsNewStepper, SeesPublished, StepperTerms, TurnsOne, TurnMade, Turned}
use Rattle.at_stepper.proofs.CountLaws.{CountsLoads-answered, CountsLoads-push, IsLastLoad-own, LoadsIn, LoadsIn-push, own_within}
use Rattle.at_stepper.proofs.LoadLaws.{loads-MakesCallStep}
use Rattle.at_stepper.proofs.PublishedTurns.{grown-PublishesAtMostOne}
use Rattle.at_stepper.proofs.ScheduleLaws.{AreLooksBetween, AreLooksBetween-RunsTo, LooksWithin-between, PublishInOrder-RunsTo, since-begun}
use Rattle.at_stepper.proofs.TimedCallers.{IsTimedCaller, begins_or_on, caller_look, caller_receipt-more, count-IsTurned, snapshot-IsTurned, still-IsTurned}
use Rattle.at_stepper.proofs.TimedLaws.{AreTimedTurns-RunsTo, known_caller, look-list, receipts_of-caller}
use Rattle.at_stepper.proofs.TimedTurns.{AreTimedTurns, HasMore-turned, pass_seen}
use Rattle.at_stepper.proofs.TurnCounts.{some_of, is_some-reply}
use Rattle.at_stepper.proofs.TurnTimes.{ended-own, is_next_of, is_next_of-number, is_next_of-own, next-answered, number-is_next_of, process-is_next_of}

-- so it is of all answered calls, and each call in the making has loaded each length in its own turns, or not yet
pub record AreCountsLoaded (turns : List TurnMade) (loaded : CallerTerms → ℕ → Option ℕ) (callers : List CallerTerms) (published : List Publication) : Type 0 where
  pub answered : (p j : ℕ) (d : CallerTerms) → p < length callers → j < length (get_or callers p d).receipts →
      CountsLoads turns (loaded d) published p j (receipt_at (get_or callers p d).receipts j).at
  pub making : (p q : ℕ) (d : CallerTerms) → p < length callers → (get_or callers p d).stage ≢ None →
      LoadsIn turns (loaded d) published p (answered_by p turns) q (get_or callers p d).pass.knows (get_or callers p d).seat.knows

-- a receipt at an own record stands within what its caller's pass has seen
own_receipt-within : (p : ℕ) (c : CallerTerms) (j : ℕ) → IsTimedCaller p c → j < length c.receipts → (number : ℕ) → (receipt_at c.receipts j).at ≡ Own number
    → number < count_of c.pass.knows.first c.pass.knows.seen
own_receipt-within p c j timed within =
    own_within c.pass.knows.book c.pass.knows.first c.pass.knows.seen _ (receipt_at c.receipts j) (timed.stands.placed j within)

-- one turn more
module _ (b : BookTerms) (turns : List TurnMade) (t : TurnMade) (turned : Turned) (published published_now : List Publication)
    (before after : List CallerTerms) (were : AreTimedTurns turns before published) (are : AreTimedTurns (turns ++ t ∷ []) after published_now)
    (changes : ChangesOne (IsTurned b published turned) t.process before after) (made : is_some t.reply ≡ (answers_in turned == 1))
    (counted : PublishInOrder turns published) (counted_now : PublishInOrder (turns ++ t ∷ []) published_now)
    (looks : AreLooksBetween turns before) (grown : IsPrefix published published_now)
    (sees : (d : CallerTerms) → SeesPublished t.process published published_now (get_or after t.process d) (changes.here d).stage)
    (loaded loaded_now : CallerTerms → ℕ → Option ℕ) (earlier : (d : CallerTerms) (m : ℕ) → m < length turns → loaded_now d m ≡ loaded d m)
    (loads_now : (d : CallerTerms) → loaded_now d (length turns) ≡ length_loaded (changes.here d).stage)
    (counts : AreCountsLoaded turns loaded before published) where
  abbrev all : List TurnMade
  all = turns ++ t ∷ []

  -- a call that was answered
  counts-old : (p j : ℕ) (d : CallerTerms) → p < length before → j < length (get_or before p d).receipts
      → CountsLoads all (loaded_now d) published_now p j (receipt_at (get_or after p d).receipts j).at
  counts-old p j d within old =
      let c = get_or before p d in
      let timed = were.each p d within in
      let counted_then = were.counted p d within in
      let same = caller_receipt-more p c timed j old (get_or after p d) (HasMore-turned b turns t turned published before after were changes made p d) in
      let some = were.times.some p j (omega (arith, old, counted_then)) in
      let other = is_next_of-number turns t p j (λ number. absurd (omega (arith, old, number, counted_then))) in
      subst (λ (r : Receipt). CountsLoads all (loaded_now d) published_now p j r.at) (sym same)
      (CountsLoads-push turns t were.times published published_now grown counted (loaded d) (loaded_now d) (earlier d) p j some other (receipt_at c.receipts j).at
      (λ number own. omega (
        arith,
        own_receipt-within p c j timed old number own,
        ap (λ k. count_of k c.pass.knows.seen) timed.process_is,
        IsPrefix-count_of p c.pass.knows.seen published (pass_seen turns before published were p d within),
      ))
      (counts.answered p j d within old))

  -- the process's caller
  module _ (d : CallerTerms) (own : t.process < length before) where
    abbrev was : CallerTerms
    was = get_or before t.process d

    abbrev now : CallerTerms
    now = get_or after t.process d

    abbrev one : IsTurned b published turned (get_or before t.process d) (get_or after t.process d)
    one = changes.here d

    inside : t.process < length after
    inside = omega (arith, own, changes.count)

    -- before its turn
    loads-ready : (j q : ℕ) → answered_by t.process turns ≡ j → length_loaded one.stage ≢ Some q
        → LoadsIn all (loaded_now d) published_now t.process j q one.ready.pass.knows one.ready.seat.knows
    loads-ready j q is unloaded =
        elim (begins_or_on b published was one.ready now one.stage one.is_ready) as
        (λ _. LoadsIn all (loaded_now d) published_now t.process j q one.ready.pass.knows one.ready.seat.knows) [
          | inl begins ↦ inl (ap (λ (c : CallerTerms). (loads_of (own_part c.seat.knows) q).times) begins.learned.same)
          | inr going_on ↦
              subst (λ (c : CallerTerms). LoadsIn all (loaded_now d) published_now t.process j q c.pass.knows c.seat.knows) (sym going_on.1)
              (subst (λ k. LoadsIn all (loaded_now d) published_now t.process k q was.pass.knows was.seat.knows) is
              (LoadsIn-push turns t were.times published published_now grown counted (loaded d) (loaded_now d) (earlier d) t.process (answered_by t.process turns) q was.pass.knows
              was.seat.knows (were.going t.process d own going_on.0) (λ next some. unloaded (sym (loads_now d) ∙ some)) (counts.making t.process q d own going_on.0)))
        ]

    -- and after it
    loads-own : (j q : ℕ) → answered_by t.process turns ≡ j → LoadsIn all (loaded_now d) published_now t.process j q one.ready.pass.knows now.seat.knows
    loads-own j q is =
        elim (loads-MakesCallStep q b published one.ready.seat now.seat now.totals one.stage one.step) as
        (λ _. LoadsIn all (loaded_now d) published_now t.process j q one.ready.pass.knows now.seat.knows) [
          | inl loads ↦
              inr (IsLastLoad-own turns t were.times published published_now grown counted (loaded d) (loaded_now d) (earlier d) t.process j q (loads_of (own_part now.seat.knows) q).last
              (is_next_of-own turns t j is) (loads_now d ∙ loads.0) (loads.1 ∙ ap (count_of q) ((sees d).loaded q loads.0)))
          | inr same ↦ elim (loads-ready j q is same.0) as (λ _. LoadsIn all (loaded_now d) published_now t.process j q one.ready.pass.knows now.seat.knows) [
            | inl none ↦ inl (ap (λ (l : Loads). l.times) same.1 ∙ none)
            | inr before_it ↦ inr (subst (λ (l : Loads). IsLastLoad all (loaded_now d) published_now t.process j q l.last) (sym same.1) before_it)
          ]
        ]

    -- a call that it answers
    counts-own : (j : ℕ) → is_next_of turns t t.process j ≡ true → answered_by t.process turns ≡ j → j < length now.receipts
        → CountsLoads all (loaded_now d) published_now t.process j (receipt_at now.receipts j).at
    counts-own j next is answered =
        let timed = are.each t.process d inside in
        let some = are.times.some t.process j (omega (arith, answered, are.counted t.process d inside)) in
        let rests = snapshot-IsTurned b published turned was now one j (omega (arith, is, were.counted t.process d own)) answered in
        let loads = λ (q : ℕ). subst (λ (s : SeatTerms). LoadsIn all (loaded_now d) published_now t.process j q one.ready.pass.knows s.knows) (sym rests.1) (loads-own j q is) in
        CountsLoads-answered all (loaded_now d) published_now t.process j b one.ready.pass.knows now.pass.knows timed.process_is
        (pass_seen all after published_now are t.process d inside)
        (since-begun b turns t turned published published_now before after were are changes made counted counted_now looks d own j is some)
        (omega (
          arith,
          counted_now.all,
          ap (λ m. published_by_then all (m + 1)) (ended-own turns t t.process j next),
          ap (published_by_then all) (length_push turns t),
        ))
        loads (receipt_at now.receipts j).at (own_receipt-within t.process now j timed answered) rests.0

    -- or a call that goes on
    making-own : (q : ℕ) → now.stage ≢ None → LoadsIn all (loaded_now d) published_now t.process (answered_by t.process all) q now.pass.knows now.seat.knows
    making-own q going_on =
        let still = still-IsTurned b published turned was now one going_on in
        let is : answered_by t.process turns ≡ answered_by t.process all =
        omega (
          arith,
          are.counted t.process d inside,
          were.counted t.process d own,
          count-IsTurned b published turned was now one,
          still.1,
        ) in
        subst (λ (pass : PassTerms). LoadsIn all (loaded_now d) published_now t.process (answered_by t.process all) q pass.knows now.seat.knows) (sym still.0)
        (loads-own (answered_by t.process all) q is)

  -- all callers
  answered-turned : (p j : ℕ) (d : CallerTerms) → p < length before → j < length (get_or after p d).receipts
      → CountsLoads all (loaded_now d) published_now p j (receipt_at (get_or after p d).receipts j).at
  answered-turned p j d within inside =
      elim (cases_lt j (length (get_or before p d).receipts)) as (λ _. CountsLoads all (loaded_now d) published_now p j (receipt_at (get_or after p d).receipts j).at) [
        | inl old ↦ counts-old p j d within old
        | inr new ↦
            let next : is_next_of turns t p j ≡ true =
            next-answered turns t p j (omega (arith, new, were.counted p d within))
            (omega (arith, inside, are.counted p d (omega (arith, within, changes.count)))) in
            let here = process-is_next_of turns t p j next in
            let number : answered_by t.process turns ≡ j = subst (λ k. answered_by k turns ≡ j) here (number-is_next_of turns t p j next) in
            subst (λ k. CountsLoads all (loaded_now d) published_now k j (receipt_at (get_or after k d).receipts j).at) (sym here)
            (counts-own d (omega (arith, within, here)) j (subst (λ k. is_next_of turns t k j ≡ true) here next) number
            (subst (λ k. j < length (get_or after k d).receipts) here inside))
      ]

  making-turned : (p q : ℕ) (d : CallerTerms) → p < length before → (get_or after p d).stage ≢ None
      → LoadsIn all (loaded_now d) published_now p (answered_by p all) q (get_or after p d).pass.knows (get_or after p d).seat.knows
  making-turned p q d within going_on =
      elim (cases_eq p t.process) as
      (λ _. LoadsIn all (loaded_now d) published_now p (answered_by p all) q (get_or after p d).pass.knows (get_or after p d).seat.knows) [
        | inl here ↦
            subst (λ k. LoadsIn all (loaded_now d) published_now k (answered_by k all) q (get_or after k d).pass.knows (get_or after k d).seat.knows) (sym here)
            (making-own d (omega (arith, within, here)) q (subst (λ k. (get_or after k d).stage ≢ None) here going_on))
        | inr other ↦
            let c = get_or before p d in
            let same = changes.others p d other in
            let was_going = subst (λ (x : CallerTerms). x.stage ≢ None) same going_on in
            let answers : answered_by p turns ≡ answered_by p all =
            were.counted p d within
            ∙ (sym (ap (λ (x : CallerTerms). length x.receipts) same) ∙ sym (are.counted p d (omega (arith, within, changes.count)))) in
            subst (λ (x : CallerTerms). LoadsIn all (loaded_now d) published_now p (answered_by p all) q x.pass.knows x.seat.knows) (sym same)
            (subst (λ k. LoadsIn all (loaded_now d) published_now p k q c.pass.knows c.seat.knows) answers
            (LoadsIn-push turns t were.times published published_now grown counted (loaded d) (loaded_now d) (earlier d) p (answered_by p turns) q c.pass.knows c.seat.knows
            (were.going p d within was_going) (λ next. absurd (other (process-is_next_of turns t p (answered_by p turns) next))) (counts.making p q d within was_going)))
      ]

  pub AreCountsLoaded-push : AreCountsLoaded all loaded_now after published_now
  AreCountsLoaded-push = record {
    answered = λ p j d within inside. answered-turned p j d (omega (arith, within, changes.count)) inside;
    making = λ p q d within going_on. making-turned p q d (omega (arith, within, changes.count)) going_on;
  }

AreCountsLoaded-none : (b : BookTerms) (files : List (List Call)) (s : StepperTerms) → IsNewStepper b files s → AreCountsLoaded [] (λ d m. None) s.callers s.published
AreCountsLoaded-none b files s new = record {
  answered = λ p j d within inside. absurd (omega (
    arith,
    inside,
    ap (λ (rs : List Receipt). length rs) (new.callers.each p [] d (omega (arith, within, new.callers.count))).is_new.unmade,
  ));
  making = λ p q d within going_on.
      absurd (going_on (new.callers.each p [] d (omega (arith, within, new.callers.count))).is_new.idle);
}

-- which length each turn has loaded, with one turn more
module _ (b : BookTerms) (files : List (List Call)) where
  loaded-starts : (s : StepperTerms) (new : IsNewStepper b files s) → (λ d m. None) ≡ length_loaded_in b files [] s (starts s new)
  unfolding length_loaded_in
  loaded-starts s new = refl

  module _ (turns : List TurnMade) (before after : StepperTerms) (t : TurnMade) (turned : Turned) (runs : RunsTo b files turns before)
      (one : TurnsOne t.process turned before after) (made : IsMadeAs turned before after t one) where
    loaded-earlier : (d : CallerTerms) (m : ℕ) → m < length turns
        → length_loaded_in b files (turns ++ t ∷ []) after (goes_on turns before after t turned runs one made) d m
        ≡ length_loaded_in b files turns before runs d m
    unfolding length_loaded_in
    loaded-earlier d m within =
        ap (λ (x : Bool). cond x (length_loaded (one.changes.here d).stage) (length_loaded_in b files turns before runs d m))
        (ne_eqb m (length turns) (λ same. absurd (omega (arith, same, within))))

    loaded-now : (d : CallerTerms) → length_loaded_in b files (turns ++ t ∷ []) after (goes_on turns before after t turned runs one made) d (length turns)
        ≡ length_loaded (one.changes.here d).stage
    unfolding length_loaded_in
    loaded-now d =
        ap (λ (x : Bool). cond x (length_loaded (one.changes.here d).stage) (length_loaded_in b files turns before runs d (length turns)))
        (eq-eqb (length turns) (length turns) refl)

AreCountsLoaded-RunsTo : (b : BookTerms) (files : List (List Call)) (turns : List TurnMade) (s : StepperTerms) (runs : RunsTo b files turns s)
    → AreCountsLoaded turns (length_loaded_in b files turns s runs) s.callers s.published
AreCountsLoaded-RunsTo b files _ _ (starts s new) =
    subst (λ (loaded : CallerTerms → ℕ → Option ℕ). AreCountsLoaded [] loaded s.callers s.published) (loaded-starts b files s new)
    (AreCountsLoaded-none b files s new)
AreCountsLoaded-RunsTo b files _ _ (goes_on turns before after t turned runs one made) =
    let whole = goes_on turns before after t turned runs one made in
    AreCountsLoaded-push before.ledger.book turns t turned before.published after.published before.callers after.callers
    (AreTimedTurns-RunsTo b files turns before runs) (AreTimedTurns-RunsTo b files (turns ++ t ∷ []) after whole) one.changes (is_some-reply turned t made.reply)
    (PublishInOrder-RunsTo b files turns before runs) (PublishInOrder-RunsTo b files (turns ++ t ∷ []) after whole)
    (AreLooksBetween-RunsTo b files turns before runs)
    (grown-PublishesAtMostOne t.process before.published after.published one.publishes) one.sees (length_loaded_in b files turns before runs)
    (length_loaded_in b files (turns ++ t ∷ []) after whole) (loaded-earlier b files turns before after t turned runs one made)
    (loaded-now b files turns before after t turned runs one made) (AreCountsLoaded-RunsTo b files turns before runs)

-- so the turns have made each closing of its receipts
module _ (b : BookTerms) (files : List (List Call)) (turns : List TurnMade) (s : StepperTerms) (c : ClosingTerms) (runs : RunsTo b files turns s)
    (receipts : c.receipts ≡ map (λ (caller : CallerTerms). caller.receipts) s.callers) where
  timed : AreTimedTurns turns s.callers s.published
  timed = AreTimedTurns-RunsTo b files turns s runs

  seen : (p : ℕ) (d : CallerTerms) → p < length s.callers → IsPrefix (get_or s.callers p d).pass.knows.seen s.published
  seen = pass_seen turns s.callers s.published timed

  looks_within : (p i : ℕ) → p < length c.receipts → i < length (receipts_of c p) → (receipt_at (receipts_of c p) i).at ≢ Previous
      → LooksWithin turns s.published p i (receipt_at (receipts_of c p) i).at
  looks_within p i within inside placed =
      let known = known_caller turns s.callers s.published timed c s.published receipts seen p within in
      let d = some_of s.callers p known in
      let is = receipts_of-caller turns s.callers s.published timed c s.published receipts seen p d known in
      let answered : i < length (get_or s.callers p d).receipts = omega (arith, inside, ap (λ (rs : List Receipt). length rs) is) in
      LooksWithin-between turns s.published p i (caller_look (get_or s.callers p d) i) (receipt_at (receipts_of c p) i).at
      (look-list turns s.callers s.published timed c s.published receipts seen p i within inside)
      (timed.times.spans p i (timed.times.some p i (omega (arith, answered, timed.counted p d known))))
      ((AreLooksBetween-RunsTo b files turns s runs).answered p i d known answered
      (subst (λ (rs : List Receipt). (receipt_at rs i).at ≢ Previous) is placed))

  abbrev lengths : CallerTerms → ℕ → Option ℕ
  lengths = length_loaded_in b files turns s runs

  counts_loaded : (d : CallerTerms) (p i : ℕ) → p < length c.receipts → i < length (receipts_of c p)
      → CountsLoads turns (lengths d) s.published p i (receipt_at (receipts_of c p) i).at
  counts_loaded d p i within inside =
      let known = known_caller turns s.callers s.published timed c s.published receipts seen p within in
      let is = receipts_of-caller turns s.callers s.published timed c s.published receipts seen p d known in
      subst (λ (rs : List Receipt). CountsLoads turns (lengths d) s.published p i (receipt_at rs i).at) (sym is)
      ((AreCountsLoaded-RunsTo b files turns s runs).answered p i d known (omega (arith, inside, ap (λ (rs : List Receipt). length rs) is)))

  pub IsMadeByTurns-RunsTo : IsMadeByTurns turns lengths s.published c
  IsMadeByTurns-RunsTo = record { published_are = PublishInOrder-RunsTo b files turns s runs; looks = looks_within; counts = counts_loaded }
