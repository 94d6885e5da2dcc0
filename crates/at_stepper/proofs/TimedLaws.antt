-- The calls of a run have their times, whatever turns led to it.
use Rattle.std.proofs.Common.{◌≡◌, ◌≢◌, ℕ, ◌<◌, List, [], length, get_or, map, slice_index, refl, sym, ap, subst, ◌∙◌, arith}
use Rattle.at_stepper.proofs.Prelude.{get_or-map, length-map, BookTerms, Call, IsPrefix-refl, IsPrefix, Publication, SeatTerms, AreTimed, ClosingTerms, receipts_of, IsNotBehind, KeepsTime, look_at, receipt_at, keys_of, Previous, Receipt, Stands, CallerTerms, RunsTo, times_of, goes_on, starts, answered_by, IsBegunCaller, IsNewStepper, StepperTerms, TurnMade}
use Rattle.at_stepper.proofs.PublishedTurns.{grown-PublishesAtMostOne}
use Rattle.at_stepper.proofs.TimedCallers.{IsTimedCaller, caller_key, caller_key-in, caller_look, caller_look-in}
use Rattle.at_stepper.proofs.TimedTurns.{AreTimedTurns, AreTimedTurns-push}
use Rattle.at_stepper.proofs.TurnCounts.{some_of, is_some-reply}
use Rattle.at_stepper.proofs.TurnTimes.{AreTimes-none}

-- a caller that is begun
IsTimedCaller-begun : (s : StepperTerms) (p : ℕ) (file : List Call) (c : CallerTerms) → IsBegunCaller s.ledger p file c → IsTimedCaller p c
IsTimedCaller-begun s p file c begun = record {
  process_is = begun.pass.process_is;
  stands = subst (λ (rs : List Receipt). Stands c.pass rs) (sym begun.is_new.unmade) begun.pass.stands;
  history = λ some. absurd (omega (arith, some, ap (λ (rs : List Receipt). length rs) begun.is_new.unmade));
  begins = subst (λ (seat : SeatTerms). IsPrefix c.pass.knows.seen seat.knows.seen) (sym begun.is_new.seat_is) (IsPrefix-refl c.pass.knows.seen);
}

IsPrefix-begun : (s : StepperTerms) (p : ℕ) (file : List Call) (c : CallerTerms) → IsBegunCaller s.ledger p file c
    → IsPrefix c.seat.knows.seen s.published
IsPrefix-begun s p file c begun =
    subst (λ xs. IsPrefix xs s.published) (sym (ap (λ (seat : SeatTerms). seat.knows.seen) begun.is_new.seat_is ∙ begun.pass.seen)) (s.published, refl)

AreTimedTurns-none : (b : BookTerms) (files : List (List Call)) (s : StepperTerms) → IsNewStepper b files s
    → AreTimedTurns [] s.callers s.published
AreTimedTurns-none b files s new =
    let begun : (p : ℕ) (d : CallerTerms) → p < length s.callers → IsBegunCaller s.ledger p (get_or files p []) (get_or s.callers p d) =
    λ p d within. new.callers.each p [] d (omega (arith, within, new.callers.count)) in
    let none : (p : ℕ) (d : CallerTerms) → p < length s.callers → length (get_or s.callers p d).receipts ≡ 0 =
    λ p d within. ap (λ (rs : List Receipt). length rs) (begun p d within).is_new.unmade in
    record {
      times = AreTimes-none;
      counted = λ p d within. sym (none p d within);
      going = λ p d within going_on. absurd (going_on (begun p d within).is_new.idle);
      each = λ p d within. IsTimedCaller-begun s p (get_or files p []) (get_or s.callers p d) (begun p d within);
      seen = λ p d within. IsPrefix-begun s p (get_or files p []) (get_or s.callers p d) (begun p d within);
      answered = λ q j d within inside. absurd (omega (arith, inside, none q d within));
      making = λ q d within going_on. absurd (going_on (begun q d within).is_new.idle);
    }

-- so it is after all turns
pub AreTimedTurns-RunsTo : (b : BookTerms) (files : List (List Call)) (turns : List TurnMade) (s : StepperTerms) → RunsTo b files turns s
    → AreTimedTurns turns s.callers s.published
AreTimedTurns-RunsTo b files _ _ (starts s new) = AreTimedTurns-none b files s new
AreTimedTurns-RunsTo b files _ _ (goes_on turns before after t turned runs one made) =
    AreTimedTurns-push before.ledger.book turns t turned before.published before.callers after.callers
    (AreTimedTurns-RunsTo b files turns before runs) one.changes (is_some-reply turned t made.reply) after.published
    (grown-PublishesAtMostOne t.process before.published after.published one.publishes)
    (λ d. (one.sees d).seen)

-- a closing of the callers' receipts, which keeps the order of a list that begins with all that they have seen
module _ (turns : List TurnMade) (callers : List CallerTerms) (published : List Publication) (kept : AreTimedTurns turns callers published)
    (c : ClosingTerms) (list : List Publication) (receipts : c.receipts ≡ map (λ (caller : CallerTerms). caller.receipts) callers)
    (seen : (p : ℕ) (d : CallerTerms) → p < length callers → IsPrefix (get_or callers p d).pass.knows.seen list) where
  pub known_caller : (p : ℕ) → p < length c.receipts → p < length callers
  known_caller p within =
      omega (
        arith,
        within,
        ap (λ (rs : List (List Receipt)). length rs) receipts,
        length-map callers (λ (caller : CallerTerms). caller.receipts),
      )

  pub receipts_of-caller : (p : ℕ) (d : CallerTerms) → p < length callers → receipts_of c p ≡ (get_or callers p d).receipts
  receipts_of-caller p d within =
      ap (λ (rs : List (List Receipt)). get_or rs p []) receipts ∙ get_or-map (λ (caller : CallerTerms). caller.receipts) callers p d [] within

  answered : (p i : ℕ) → p < length c.receipts → i < length (receipts_of c p) → i < answered_by p turns
  answered p i within inside =
      let d = some_of callers p (known_caller p within) in
      omega (
        arith,
        inside,
        kept.counted p d (known_caller p within),
        ap (λ (rs : List Receipt). length rs) (receipts_of-caller p d (known_caller p within)),
      )

  -- a receipt's key and look in the list are those in what its caller has seen
  module _ (p i : ℕ) (within : p < length c.receipts) (inside : i < length (receipts_of c p)) where
    abbrev caller : CallerTerms
    caller = get_or callers p (some_of callers p (known_caller p within))

    is : receipts_of c p ≡ caller.receipts
    is = receipts_of-caller p (some_of callers p (known_caller p within)) (known_caller p within)

    in_caller : i < length caller.receipts
    in_caller = omega (arith, inside, ap (λ (rs : List Receipt). length rs) is)

    timed : IsTimedCaller p caller
    timed = kept.each p (some_of callers p (known_caller p within)) (known_caller p within)

    key-list : slice_index (keys_of p list (receipts_of c p)) i ≡ caller_key caller i
    key-list =
        ap (λ rs. slice_index (keys_of p list rs) i) is
        ∙ caller_key-in p caller timed i in_caller list (seen p (some_of callers p (known_caller p within)) (known_caller p within))

    pub look-list : look_at p list (receipt_at (receipts_of c p) i).at ≡ caller_look caller i
    look-list =
        ap (λ rs. look_at p list (receipt_at rs i).at) is
        ∙ caller_look-in p caller timed i in_caller list (seen p (some_of callers p (known_caller p within)) (known_caller p within))

  in_time : KeepsTime list c → (p i q j : ℕ) → p < length c.receipts → i < length (receipts_of c p) → q < length c.receipts
      → j < length (receipts_of c q) → (receipt_at (receipts_of c p) i).at ≢ Previous → (receipt_at (receipts_of c q) j).at ≢ Previous
      → (times_of turns).ended p i < (times_of turns).begun q j → IsNotBehind c p i q j
  in_time keeps p i q j within inside known_q inside_q placed placed_q before =
      let d = some_of callers p (known_caller p within) in
      let e = some_of callers q (known_caller q known_q) in
      let looked = kept.answered q j e (known_caller q known_q) (in_caller q j known_q inside_q) in
      let back = looked.back p i d (known_caller p within) (in_caller p i within inside) before in
      let ahead = looked.ahead (subst (λ (rs : List Receipt). (receipt_at rs j).at ≢ Previous) (is q j known_q inside_q) placed_q) in
      keeps p i q j looked.length_between within inside known_q inside_q
      (omega (arith, back, key-list p i within inside)) (omega (arith, ahead, look-list q j known_q inside_q))

  AreTimed-turns : KeepsTime list c → AreTimed c (times_of turns)
  AreTimed-turns keeps = record {
    spans = λ p i within inside. kept.times.spans p i (kept.times.some p i (answered p i within inside));
    sequential = λ p i j within before inside.
        let later = answered p j within inside in
        kept.times.sequential p i j before (kept.times.some p i (omega (arith, before, later))) (kept.times.some p j later);
    in_time = in_time keeps;
  }

-- the calls of a run have the times of the turns that led to it
pub AreTimed-RunsTo : (b : BookTerms) (files : List (List Call)) (turns : List TurnMade) (s : StepperTerms) (c : ClosingTerms) (list : List Publication)
    → RunsTo b files turns s → c.receipts ≡ map (λ (caller : CallerTerms). caller.receipts) s.callers
    → ((p : ℕ) (d : CallerTerms) → p < length s.callers → IsPrefix (get_or s.callers p d).pass.knows.seen list) → KeepsTime list c
    → AreTimed c (times_of turns)
AreTimed-RunsTo b files turns s c list runs receipts seen keeps =
    AreTimed-turns turns s.callers s.published (AreTimedTurns-RunsTo b files turns s runs) c list receipts seen keeps
