-- Callers that begin their next calls, with what is published.
use Rattle.std.specs.Prelude.{IfSome, sum_by, ◌+◌}
use Rattle.std.proofs.Common.{◌≡◌, ◌-◌, List, drop, Option, Some, None, length, refl, sym, ap, subst, ◌∙◌, arith}
use Rattle.at_stepper.proofs.Prelude.{MakesOnly, MakesOnly-MakesCallStep, IsWay, exchanges_of, first_step, next_step, publishes_of, refusal_in, CallStage, Publication, BookTerms, Call, raised, SeatTerms, PassTerms, seat_of, BeginsCall, CallerTerms, HasLearned, IsReadyFrom, IsTurned, caller_turns_left, calls_left_of, most_turns, next_call, own_seen, steps_in, steps_so_far, StartsNext, TakesTurn, Turned}

-- the caller begins its next call with what it has learned
module _ (b : BookTerms) (published : List Publication) (was mid ready : CallerTerms) (learned : HasLearned was mid)
    (seen : mid.pass.knows.seen ≡ published) (next : StartsNext b mid ready) where
  abbrev begun : CallerTerms
  begun = record mid { stage = Some next.stage }

  same_call : next_call mid ≡ next_call was
  same_call = ap (λ (c : CallerTerms). next_call c) learned.same

  learned-begun : HasLearned (record was { stage = begun.stage }) begun
  learned-begun = record {
    same = ap (λ (c : CallerTerms). record c { stage = Some next.stage }) learned.same;
    pass_same = learned.pass_same;
    begins = learned.begins;
    sent = learned.sent;
    stands = learned.stands;
  }

  begins-begun : BeginsCall b published was begun next.stage
  begins-begun = record {
    learned = learned-begun;
    seen = seen;
    history = next.history;
    way = subst (λ (call : Call). IsWay b mid.pass call next.stage) same_call next.way;
    starts = next.starts;
    unturned = next.unturned;
    unexchanged = next.unexchanged;
    first = next.first ∙ ap (λ (call : Call). first_step (refusal_in b mid.pass call)) same_call;
  }

  pub BeginsCall-next : (stage : CallStage) × (ready.stage ≡ Some stage) × BeginsCall b published was ready stage
  BeginsCall-next = (
    next.stage,
    ap (λ (c : CallerTerms). c.stage) next.same,
    subst (λ (c : CallerTerms). BeginsCall b published was c next.stage) (sym next.same) begins-begun,
  )

-- just the step was made that comes next
made-TakesTurn : (b : BookTerms) (published : List Publication) (was after : CallerTerms) (turned : Turned) (stage : CallStage)
    → TakesTurn b published was after turned stage → MakesOnly b was.seat.knows after.seat.knows (steps_in turned) (next_step b stage)
made-TakesTurn b published was after turned stage takes =
    subst (λ n. MakesOnly b was.seat.knows after.seat.knows n (next_step b stage)) (sym takes.kind)
    (MakesOnly-MakesCallStep b published was.seat after.seat after.totals stage takes.step)

-- the turn of a caller whose call goes on, or has begun with it
pub IsTurned-going_on : (b : BookTerms) (published : List Publication) (was after : CallerTerms) (turned : Turned) (stage : CallStage)
    → was.stage ≡ Some stage → TakesTurn b published was after turned stage → IsTurned b published turned was after
IsTurned-going_on b published was after turned stage is takes = record {
  ready = was;
  stage = stage;
  is_ready = record { stage_is = is; from = subst (IsReadyFrom b published was was stage) (sym is) refl };
  leaves = takes.leaves;
  ends = takes.ends;
  step = takes.step;
  made = made-TakesTurn b published was after turned stage takes;
  kind = takes.kind;
  steps = takes.steps;
  exchanges = takes.exchanges;
  publishes = takes.publishes;
  calls = takes.calls;
  process_is = takes.process_is;
  left = takes.left;
  turns_left = takes.turns_left;
}

module _ (b : BookTerms) (published : List Publication) (was ready after : CallerTerms) (turned : Turned) (stage : CallStage)
    (none : was.stage ≡ None) (between : seat_of was.pass ≡ was.seat) (is : ready.stage ≡ Some stage) (begins : BeginsCall b published was ready stage)
    (own : own_seen ready ≡ own_seen was) (takes : TakesTurn b published ready after turned stage) where
  abbrev learned : HasLearned (record was { stage = ready.stage }) ready
  learned = begins.learned

  seat_is : ready.seat ≡ seat_of ready.pass
  seat_is = ap (λ (c : CallerTerms). c.seat) learned.same

  -- what was counted before is
  steps_kept : ready.seat.steps ≡ was.seat.steps
  steps_kept =
      ap (λ (t : SeatTerms). t.steps) seat_is
      ∙ (ap (λ (p : PassTerms). p.steps) learned.pass_same ∙ ap (λ (t : SeatTerms). t.steps) between)

  exchanges_kept : ready.seat.exchanges ≡ was.seat.exchanges
  exchanges_kept =
      ap (λ (t : SeatTerms). t.exchanges) seat_is
      ∙ (ap (λ (p : PassTerms). p.exchanges) learned.pass_same ∙ ap (λ (t : SeatTerms). t.exchanges) between)

  calls_kept : ready.calls ≡ was.calls
  calls_kept = ap (λ (c : CallerTerms). c.calls) learned.same

  receipts_kept : ready.receipts ≡ was.receipts
  receipts_kept = ap (λ (c : CallerTerms). c.receipts) learned.same

  left_kept : calls_left_of ready ≡ calls_left_of was
  left_kept = λ t. length (calls_kept t) - length (receipts_kept t)

  turns_kept : caller_turns_left b ready ≡ caller_turns_left b was
  turns_kept =
      (λ t. sum_by (most_turns b) (drop (length (receipts_kept t)) (calls_kept t)) - steps_so_far ready.stage)
      ∙ ap (λ n. sum_by (most_turns b) (drop (length was.receipts) was.calls) - n)
      (ap (λ (o : Option CallStage). steps_so_far o) is ∙ (begins.unturned ∙ sym (ap (λ (o : Option CallStage). steps_so_far o) none)))

  pub IsTurned-begun : IsTurned b published turned was after
  IsTurned-begun = record {
    ready = ready;
    stage = stage;
    is_ready = record { stage_is = is; from = subst (IsReadyFrom b published was ready stage) (sym none) begins };
    leaves = takes.leaves;
    ends = takes.ends;
    step = takes.step;
    made = made-TakesTurn b published ready after turned stage takes;
    kind = takes.kind;
    steps = takes.steps ∙ ap (λ n. raised n (steps_in turned)) steps_kept;
    exchanges = takes.exchanges ∙ ap (λ n. raised n (exchanges_of stage)) exchanges_kept;
    publishes = takes.publishes ∙ ap (λ n. n + publishes_of b stage) own;
    calls = takes.calls ∙ calls_kept;
    process_is = takes.process_is ∙ ap (λ (p : PassTerms). p.knows.first) learned.pass_same;
    left = sym left_kept ∙ takes.left;
    turns_left = omega (arith, takes.turns_left, turns_kept);
  }

-- what something goes on with
some_stage : (o : Option CallStage) → (o ≡ None → ⊥) → (stage : CallStage) × (o ≡ Some stage)
some_stage None some = absurd (some refl)
some_stage (Some stage) some = (stage, refl)

pub IfSome-some : (P : CallStage → Type 0) (o : Option CallStage) (stage : CallStage) → o ≡ Some stage → IfSome o P → P stage
IfSome-some P o stage is holds = subst (λ (x : Option CallStage). IfSome x P) is holds

-- where a call is in the making, its turn is the caller's
pub IsTurned-some : (b : BookTerms) (published : List Publication) (was after : CallerTerms) (turned : Turned) → (was.stage ≡ None → ⊥)
    → IfSome was.stage (TakesTurn b published was after turned) → IsTurned b published turned was after
IsTurned-some b published was after turned some takes =
    let going_on = some_stage was.stage some in
    IsTurned-going_on b published was after turned going_on.0 going_on.1
    (IfSome-some (TakesTurn b published was after turned) was.stage going_on.0 going_on.1 takes)
