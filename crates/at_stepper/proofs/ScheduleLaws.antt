-- A run's turns have published its records, and each answered call looks at what was published at one of its moments.
use Rattle.std.proofs.Common.{◌≡◌, ◌≢◌, ℕ, ◌+◌, ◌<◌, ◌≤◌, ◌==◌, true, List, [], ◌∷◌, ◌++◌, None, length, get_or, sym, ap, subst, ◌∙◌, arith, inl, inr}
use Rattle.std.specs.Prelude.{is_some}
use Rattle.at_stepper.proofs.Prelude.{cases_eq, cases_lt, length_push, BookTerms, Call, IsPrefix-length, Publication, look_at, receipt_at, At, Previous, Receipt, PassTerms, CallerTerms, IsTurned, answers_in, PublishInOrder, LooksWithin, RunsTo, published_by_then, times_of, turns_of_call, goes_on, starts, answered_by, ChangesOne, IsNewStepper, StepperTerms, TurnMade, Turned}
use Rattle.at_stepper.proofs.TurnCounts.{is_some-reply}
use Rattle.at_stepper.proofs.CountLaws.{published-begun, published-ended}
use Rattle.at_stepper.proofs.PublishedTurns.{PublishInOrder-none, PublishInOrder-push, moment_between, published_by_then-le, published_by_then-push}
use Rattle.at_stepper.proofs.TimedCallers.{ahead-IsTurned, begins_or_on, caller_look, caller_look-le, caller_look-more, caller_receipt-more, count-IsTurned, still-IsTurned}
use Rattle.at_stepper.proofs.TimedLaws.{AreTimedTurns-RunsTo}
use Rattle.at_stepper.proofs.TimedTurns.{AreTimedTurns, HasMore-turned, pass_seen}
use Rattle.at_stepper.proofs.TurnTimes.{ended-own, is_next_of, is_next_of-number, next-answered, number-is_next_of, process-is_next_of}

-- a call's look counts no less than was published when it began, and no more than was when it ended
pub record IsLookBetween (turns : List TurnMade) (q j look : ℕ) : Type 0 where
  pub since : published_by_then turns ((times_of turns).begun q j) ≤ look
  pub until : look ≤ published_by_then turns ((times_of turns).ended q j + 1)

-- so it is what was published at a moment of the call
pub LooksWithin-between : (turns : List TurnMade) (published : List Publication) (p i look : ℕ) (at : At) → look_at p published at ≡ look
    → (times_of turns).begun p i ≤ (times_of turns).ended p i → IsLookBetween turns p i look → LooksWithin turns published p i at
LooksWithin-between turns published p i look at is spans between =
    let one = moment_between turns look ((times_of turns).begun p i) ((times_of turns).ended p i + 1) (omega (arith, spans)) between.since between.until in
    record { moment = one.moment; begun = one.since; ended = one.until; look = is ∙ one.count_is }

-- the looks of all answered calls are, and of each call in the making its caller had seen no less than was published when it began
pub record AreLooksBetween (turns : List TurnMade) (callers : List CallerTerms) : Type 0 where
  pub answered : (q j : ℕ) (d : CallerTerms) → q < length callers → j < length (get_or callers q d).receipts →
      (receipt_at (get_or callers q d).receipts j).at ≢ Previous → IsLookBetween turns q j (caller_look (get_or callers q d) j)
  pub making : (q : ℕ) (d : CallerTerms) → q < length callers → (get_or callers q d).stage ≢ None →
      published_by_then turns ((times_of turns).begun q (answered_by q turns)) ≤ length (get_or callers q d).pass.knows.seen

-- one turn more
module _ (b : BookTerms) (turns : List TurnMade) (t : TurnMade) (turned : Turned) (published published_now : List Publication)
    (before after : List CallerTerms) (were : AreTimedTurns turns before published) (are : AreTimedTurns (turns ++ t ∷ []) after published_now)
    (changes : ChangesOne (IsTurned b published turned) t.process before after) (made : is_some t.reply ≡ (answers_in turned == 1))
    (counted : PublishInOrder turns published) (counted_now : PublishInOrder (turns ++ t ∷ []) published_now)
    (looks : AreLooksBetween turns before) where
  abbrev all : List TurnMade
  all = turns ++ t ∷ []

  -- a call that was answered
  look-old : (q j : ℕ) (d : CallerTerms) → q < length before → j < length (get_or before q d).receipts
      → (receipt_at (get_or after q d).receipts j).at ≢ Previous → IsLookBetween all q j (caller_look (get_or after q d) j)
  look-old q j d within old placed =
      let has = HasMore-turned b turns t turned published before after were changes made q d in
      let timed = were.each q d within in
      let counted_then = were.counted q d within in
      let same = caller_receipt-more q (get_or before q d) timed j old (get_or after q d) has in
      let was = looks.answered q j d within old (subst (λ (r : Receipt). r.at ≢ Previous) same placed) in
      let look = caller_look-more q (get_or before q d) timed j old (get_or after q d) has in
      let some = were.times.some q j (omega (arith, old, counted_then)) in
      let other = is_next_of-number turns t q j (λ number. absurd (omega (arith, old, number, counted_then))) in
      record {
        since = omega (arith, was.since, look, published-begun turns t were.times q j some);
        until = omega (arith, was.until, look, published-ended turns t were.times q j other some);
      }

  -- the process's caller, and what its turn goes on from
  module _ (d : CallerTerms) (own : t.process < length before) where
    abbrev was : CallerTerms
    was = get_or before t.process d

    abbrev now : CallerTerms
    now = get_or after t.process d

    abbrev one : IsTurned b published turned (get_or before t.process d) (get_or after t.process d)
    one = changes.here d

    inside : t.process < length after
    inside = omega (arith, own, changes.count)

    -- when the process's call began no more was published than its caller had seen
    pub since-begun : (j : ℕ) → answered_by t.process turns ≡ j → 0 < length (turns_of_call all t.process j)
        → published_by_then all ((times_of all).begun t.process j) ≤ length one.ready.pass.knows.seen
    since-begun j is some =
        elim (begins_or_on b published was one.ready now one.stage one.is_ready) as
        (λ _. published_by_then all ((times_of all).begun t.process j) ≤ length one.ready.pass.knows.seen) [
          | inl begins ↦
              let begun = (times_of all).begun t.process j in
              omega (
                arith,
                published_by_then-push turns t begun
                    (omega (arith, are.times.spans t.process j some, are.times.within t.process j some, length_push turns t)),
                published_by_then-le turns begun,
                counted.all,
                ap (λ xs. length xs) begins.seen,
              )
          | inr going_on ↦
              let had : 0 < length (turns_of_call turns t.process j) =
              subst (λ k. 0 < length (turns_of_call turns t.process k)) is (were.going t.process d own going_on.0) in
              let making = subst (λ k. published_by_then turns ((times_of turns).begun t.process k) ≤ length was.pass.knows.seen) is
              (looks.making t.process d own going_on.0) in
              omega (arith, published-begun turns t were.times t.process j had, making, ap (λ (c : CallerTerms). length c.pass.knows.seen) going_on.1)
        ]

    -- it is answered with a look at what was published by now
    look-own : (j : ℕ) → is_next_of turns t t.process j ≡ true → answered_by t.process turns ≡ j → j < length now.receipts
        → (receipt_at now.receipts j).at ≢ Previous → IsLookBetween all t.process j (caller_look now j)
    look-own j next is answered placed =
        let some = are.times.some t.process j (omega (arith, answered, are.counted t.process d inside)) in
        record {
          since = omega (
            arith,
            since-begun j is some,
            ahead-IsTurned b published turned was now one j (omega (arith, is, were.counted t.process d own)) answered placed,
          );
          until = omega (
            arith,
            caller_look-le t.process now (are.each t.process d inside) j answered,
            IsPrefix-length now.pass.knows.seen published_now (pass_seen all after published_now are t.process d inside),
            counted_now.all,
            ap (λ m. published_by_then all (m + 1)) (ended-own turns t t.process j next),
            ap (published_by_then all) (length_push turns t),
          );
        }

    -- or goes on
    making-own : now.stage ≢ None
        → published_by_then all ((times_of all).begun t.process (answered_by t.process all)) ≤ length now.pass.knows.seen
    making-own going_on =
        let still = still-IsTurned b published turned was now one going_on in
        let is : answered_by t.process turns ≡ answered_by t.process all =
        omega (
          arith,
          are.counted t.process d inside,
          were.counted t.process d own,
          count-IsTurned b published turned was now one,
          still.1,
        ) in
        omega (
          arith,
          since-begun (answered_by t.process all) is (are.going t.process d inside going_on),
          ap (λ (pass : PassTerms). length pass.knows.seen) still.0,
        )

  -- all callers
  answered-turned : (q j : ℕ) (d : CallerTerms) → q < length before → j < length (get_or after q d).receipts
      → (receipt_at (get_or after q d).receipts j).at ≢ Previous → IsLookBetween all q j (caller_look (get_or after q d) j)
  answered-turned q j d within inside placed =
      elim (cases_lt j (length (get_or before q d).receipts)) as (λ _. IsLookBetween all q j (caller_look (get_or after q d) j)) [
        | inl old ↦ look-old q j d within old placed
        | inr new ↦
            let next : is_next_of turns t q j ≡ true =
            next-answered turns t q j (omega (arith, new, were.counted q d within))
            (omega (arith, inside, are.counted q d (omega (arith, within, changes.count)))) in
            let here = process-is_next_of turns t q j next in
            let number : answered_by t.process turns ≡ j = subst (λ p. answered_by p turns ≡ j) here (number-is_next_of turns t q j next) in
            subst (λ p. IsLookBetween all p j (caller_look (get_or after p d) j)) (sym here)
            (look-own d (omega (arith, within, here)) j (subst (λ p. is_next_of turns t p j ≡ true) here next) number
            (subst (λ p. j < length (get_or after p d).receipts) here inside)
            (subst (λ p. (receipt_at (get_or after p d).receipts j).at ≢ Previous) here placed))
      ]

  making-turned : (q : ℕ) (d : CallerTerms) → q < length before → (get_or after q d).stage ≢ None
      → published_by_then all ((times_of all).begun q (answered_by q all)) ≤ length (get_or after q d).pass.knows.seen
  making-turned q d within going_on =
      elim (cases_eq q t.process) as
      (λ _. published_by_then all ((times_of all).begun q (answered_by q all)) ≤ length (get_or after q d).pass.knows.seen) [
        | inl here ↦
            subst (λ p. published_by_then all ((times_of all).begun p (answered_by p all)) ≤ length (get_or after p d).pass.knows.seen) (sym here)
            (making-own d (omega (arith, within, here)) (subst (λ p. (get_or after p d).stage ≢ None) here going_on))
        | inr other ↦
            let same = changes.others q d other in
            let was_going = subst (λ (c : CallerTerms). c.stage ≢ None) same going_on in
            let answers : answered_by q all ≡ answered_by q turns =
            are.counted q d (omega (arith, within, changes.count))
            ∙ (ap (λ (c : CallerTerms). length c.receipts) same ∙ sym (were.counted q d within)) in
            omega (
              arith,
              looks.making q d within was_going,
              published-begun turns t were.times q (answered_by q turns) (were.going q d within was_going),
              ap (λ i. published_by_then all ((times_of all).begun q i)) answers,
              ap (λ (c : CallerTerms). length c.pass.knows.seen) same,
            )
      ]

  pub AreLooksBetween-push : AreLooksBetween all after
  AreLooksBetween-push = record {
    answered = λ q j d within inside placed. answered-turned q j d (omega (arith, within, changes.count)) inside placed;
    making = λ q d within going_on. making-turned q d (omega (arith, within, changes.count)) going_on;
  }

-- the turns that lead to a run have published its records
pub PublishInOrder-RunsTo : (b : BookTerms) (files : List (List Call)) (turns : List TurnMade) (s : StepperTerms) → RunsTo b files turns s
    → PublishInOrder turns s.published
PublishInOrder-RunsTo b files _ _ (starts s new) = PublishInOrder-none s.published new.unpublished
PublishInOrder-RunsTo b files _ _ (goes_on turns before after t turned runs one made) =
    PublishInOrder-push turns t before.published after.published (PublishInOrder-RunsTo b files turns before runs)
    one.publishes made.published

AreLooksBetween-none : (b : BookTerms) (files : List (List Call)) (s : StepperTerms) → IsNewStepper b files s → AreLooksBetween [] s.callers
AreLooksBetween-none b files s new = record {
  answered = λ q j d within inside. absurd (omega (
    arith,
    inside,
    ap (λ (rs : List Receipt). length rs) (new.callers.each q [] d (omega (arith, within, new.callers.count))).is_new.unmade,
  ));
  making = λ q d within going_on.
      absurd (going_on (new.callers.each q [] d (omega (arith, within, new.callers.count))).is_new.idle);
}

-- and of each call the look is between
pub AreLooksBetween-RunsTo : (b : BookTerms) (files : List (List Call)) (turns : List TurnMade) (s : StepperTerms) → RunsTo b files turns s
    → AreLooksBetween turns s.callers
AreLooksBetween-RunsTo b files _ _ (starts s new) = AreLooksBetween-none b files s new
AreLooksBetween-RunsTo b files _ _ (goes_on turns before after t turned runs one made) =
    let whole = goes_on turns before after t turned runs one made in
    AreLooksBetween-push before.ledger.book turns t turned before.published after.published before.callers after.callers
    (AreTimedTurns-RunsTo b files turns before runs) (AreTimedTurns-RunsTo b files (turns ++ t ∷ []) after whole) one.changes (is_some-reply turned t made.reply)
    (PublishInOrder-RunsTo b files turns before runs) (PublishInOrder-RunsTo b files (turns ++ t ∷ []) after whole)
    (AreLooksBetween-RunsTo b files turns before runs)
