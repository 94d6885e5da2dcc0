-- What a turn leaves of its caller, for the order of calls in time.
use Rattle.std.proofs.Common.{◌≡◌, ◌≢◌, ◌⊎◌, ℕ, ◌+◌, ◌*◌, ◌<◌, ◌≤◌, List, [], ◌∷◌, ◌++◌, None, Option, Some, append-nil, append_assoc, length, refl, sym, ap, subst, ◌∙◌, arith, inl, inr, slice_index}
use Rattle.at_stepper.proofs.Prelude.{get_or_append_left, get_or_push, length_push, BookTerms, IsPrefix-refl, IsPrefix-trans, IsHistory, IsPrefix, Publication, SeatTerms, look_at, receipt_at, keys_of, Previous, Receipt, begins-CallMade, process-CallMade, key-in, key-le, key-same, look-in, look-le, look-same, PassTerms, Stands, seat_of, CallStage, BeginsCall, CallerTerms, IsReadyToTurn, IsReadyFrom, IsTurned, LeavesCaller, answers_in, next_call, Turned, Answer, Step}
use Rattle.at_stepper.proofs.LookLaws.{RestsOnSnapshot, snapshot-CallMade}

-- the key and the look of a caller's receipt, in what its pass has seen
abbrev pub caller_key : CallerTerms → ℕ → ℕ
caller_key c i = slice_index (keys_of c.pass.knows.first c.pass.knows.seen c.receipts) i

abbrev pub caller_look : CallerTerms → ℕ → ℕ
caller_look c i = look_at c.pass.knows.first c.pass.knows.seen (receipt_at c.receipts i).at

-- the receipts of a process's caller stand with its pass, whose list is a history once a call is answered, and its seat has seen no less
pub record IsTimedCaller (process : ℕ) (c : CallerTerms) : Type 0 where
  pub process_is : c.pass.knows.first ≡ process
  pub stands : Stands c.pass c.receipts
  pub history : 0 < length c.receipts → IsHistory c.pass.knows.book c.pass.knows.seen
  pub begins : IsPrefix c.pass.knows.seen c.seat.knows.seen

-- a caller's pass has seen more, and there are more receipts
pub record HasMore (before after : CallerTerms) : Type 0 where
  pub process_is : after.pass.knows.first ≡ before.pass.knows.first
  pub seen : IsPrefix before.pass.knows.seen after.pass.knows.seen
  pub more : List Receipt
  pub receipts : after.receipts ≡ before.receipts ++ more

pub HasMore-refl : (c : CallerTerms) → HasMore c c
HasMore-refl c = record { process_is = refl; seen = IsPrefix-refl c.pass.knows.seen; more = []; receipts = sym (append-nil c.receipts) }

HasMore-trans : (a b c : CallerTerms) → HasMore a b → HasMore b c → HasMore a c
HasMore-trans a b c one two = record {
  process_is = two.process_is ∙ one.process_is;
  seen = IsPrefix-trans a.pass.knows.seen b.pass.knows.seen c.pass.knows.seen one.seen two.seen;
  more = one.more ++ two.more;
  receipts = two.receipts ∙ (ap (λ rs. rs ++ two.more) one.receipts ∙ append_assoc a.receipts one.more two.more);
}

-- a caller's keys and looks, in its own list and in a longer one
module _ (process : ℕ) (c : CallerTerms) (timed : IsTimedCaller process c) (i : ℕ) (within : i < length c.receipts) where
  history : IsHistory c.pass.knows.book c.pass.knows.seen
  history = timed.history (omega (arith, within))

  pub caller_key-le : caller_key c i ≤ 2 * length c.pass.knows.seen
  caller_key-le = key-le c.pass.knows.book c.pass.knows.first c.pass.knows.seen c.receipts timed.stands i history within

  pub caller_look-le : caller_look c i ≤ length c.pass.knows.seen
  caller_look-le = look-le c.pass.knows.book c.pass.knows.first c.pass.knows.seen c.receipts timed.stands i history within

  module _ (list : List Publication) (seen : IsPrefix c.pass.knows.seen list) where
    pub caller_key-in : slice_index (keys_of process list c.receipts) i ≡ caller_key c i
    caller_key-in =
        ap (λ p. slice_index (keys_of p list c.receipts) i) (sym timed.process_is)
        ∙ key-in c.pass.knows.book c.pass.knows.first c.pass.knows.seen c.receipts timed.stands list seen i within history

    pub caller_look-in : look_at process list (receipt_at c.receipts i).at ≡ caller_look c i
    caller_look-in =
        ap (λ p. look_at p list (receipt_at c.receipts i).at) (sym timed.process_is)
        ∙ look-in c.pass.knows.book c.pass.knows.first c.pass.knows.seen c.receipts timed.stands list seen i within

  -- and with more receipts
  module _ (after : CallerTerms) (has : HasMore c after) where
    pub caller_receipt-more : receipt_at after.receipts i ≡ receipt_at c.receipts i
    caller_receipt-more = ap (λ rs. receipt_at rs i) has.receipts ∙ get_or_append_left c.receipts has.more _ i within

    pub caller_key-more : caller_key after i ≡ caller_key c i
    caller_key-more =
        (λ k. slice_index (keys_of (has.process_is k) after.pass.knows.seen (has.receipts k)) i)
        ∙ key-same c.pass.knows.book c.pass.knows.first c.pass.knows.seen c.receipts timed.stands after.pass.knows.seen has.seen has.more i within history

    pub caller_look-more : caller_look after i ≡ caller_look c i
    caller_look-more =
        (λ k. look_at (has.process_is k) after.pass.knows.seen (receipt_at (has.receipts k) i).at)
        ∙ look-same c.pass.knows.book c.pass.knows.first c.pass.knows.seen c.receipts timed.stands after.pass.knows.seen has.seen has.more i within

-- a turn, from what it goes on from
module _ (b : BookTerms) (published : List Publication) (before ready after : CallerTerms) (stage : CallStage) where
  begins_or_goes_on : (so_far : Option CallStage) → before.stage ≡ so_far → IsReadyFrom b published before ready stage so_far
      → BeginsCall b published before ready stage ⊎ ((before.stage ≢ None) × (ready ≡ before))
  begins_or_goes_on None is begins = inl begins
  begins_or_goes_on (Some going_on) is same = inr ((λ none. cc (is, none)), same)

  -- the call begins with it, or was in the making
  pub begins_or_on : IsReadyToTurn b published before ready stage
      → BeginsCall b published before ready stage ⊎ ((before.stage ≢ None) × (ready ≡ before))
  begins_or_on is_ready = begins_or_goes_on before.stage refl is_ready.from

  HasMore-ready : IsReadyToTurn b published before ready stage → HasMore before ready
  HasMore-ready is_ready =
      elim (begins_or_on is_ready) as (λ _. HasMore before ready) [
        | inl begins ↦ record {
          process_is = ap (λ (p : PassTerms). p.knows.first) begins.learned.pass_same;
          seen = begins.learned.begins;
          more = [];
          receipts = ap (λ (c : CallerTerms). c.receipts) begins.learned.same ∙ sym (append-nil before.receipts);
        }
        | inr going_on ↦ subst (HasMore before) (sym going_on.1) (HasMore-refl before)
      ]

  count-ready : IsReadyToTurn b published before ready stage → length ready.receipts ≡ length before.receipts
  count-ready is_ready =
      elim (begins_or_on is_ready) as (λ _. length ready.receipts ≡ length before.receipts) [
        | inl begins ↦ ap (λ (c : CallerTerms). length c.receipts) begins.learned.same
        | inr going_on ↦ ap (λ (c : CallerTerms). length c.receipts) going_on.1
      ]

  IsTimedCaller-ready : (process : ℕ) → IsReadyToTurn b published before ready stage → IsTimedCaller process before → IsTimedCaller process ready
  IsTimedCaller-ready process is_ready was =
      elim (begins_or_on is_ready) as (λ _. IsTimedCaller process ready) [
        | inl begins ↦ record {
          process_is = ap (λ (p : PassTerms). p.knows.first) begins.learned.pass_same ∙ was.process_is;
          stands = begins.learned.stands;
          history = λ some. begins.history;
          begins = subst (IsPrefix ready.pass.knows.seen) (sym (ap (λ (c : CallerTerms). c.seat.knows.seen) begins.learned.same))
              (IsPrefix-refl ready.pass.knows.seen);
        }
        | inr going_on ↦ subst (IsTimedCaller process) (sym going_on.1) was
      ]

  -- what it leaves
  HasMore-left : (turned : Turned) → LeavesCaller b ready after stage turned → HasMore ready after
  HasMore-left Step still = record {
    process_is = ap (λ (p : PassTerms). p.knows.first) still.pass;
    seen = subst (λ (p : PassTerms). IsPrefix ready.pass.knows.seen p.knows.seen) (sym still.pass) (IsPrefix-refl ready.pass.knows.seen);
    more = [];
    receipts = still.receipts ∙ sym (append-nil ready.receipts);
  }
  HasMore-left (Answer r) answered = record {
    process_is = process-CallMade b ready.pass after.pass (next_call ready) r answered.made;
    seen = begins-CallMade b ready.pass after.pass (next_call ready) r answered.made;
    more = r ∷ [];
    receipts = answered.receipts;
  }

  count-left : (turned : Turned) → LeavesCaller b ready after stage turned → length after.receipts ≡ length ready.receipts + answers_in turned
  count-left Step still = omega (arith, ap (λ (rs : List Receipt). length rs) still.receipts)
  count-left (Answer r) answered = ap (λ (rs : List Receipt). length rs) answered.receipts ∙ length_push ready.receipts r

  IsTimedCaller-left : (process : ℕ) (turned : Turned) → LeavesCaller b ready after stage turned → IsTimedCaller process ready
      → IsTimedCaller process after
  IsTimedCaller-left process Step still was = record {
    process_is = ap (λ (p : PassTerms). p.knows.first) still.pass ∙ was.process_is;
    stands = subst (λ (p : PassTerms). Stands p after.receipts) (sym still.pass)
        (subst (λ (rs : List Receipt). Stands ready.pass rs) (sym still.receipts) was.stands);
    history = λ some. subst (λ (p : PassTerms). IsHistory p.knows.book p.knows.seen) (sym still.pass)
        (was.history (omega (arith, some, ap (λ (rs : List Receipt). length rs) still.receipts)));
    begins = subst (λ (p : PassTerms). IsPrefix p.knows.seen after.seat.knows.seen) (sym still.pass) still.begins;
  }
  IsTimedCaller-left process (Answer r) answered was = record {
    process_is = process-CallMade b ready.pass after.pass (next_call ready) r answered.made ∙ was.process_is;
    stands = answered.stands;
    history = λ some. answered.history;
    begins = subst (λ (s : SeatTerms). IsPrefix after.pass.knows.seen s.knows.seen) answered.seat (IsPrefix-refl after.pass.knows.seen);
  }

  -- a call that is in the making after the turn began with this pass, and no call is answered
  still-left : (turned : Turned) → LeavesCaller b ready after stage turned → after.stage ≢ None → (after.pass ≡ ready.pass) × (answers_in turned ≡ 0)
  still-left Step still going_on = (still.pass, refl)
  still-left (Answer r) answered going_on = absurd (going_on answered.idle)

  -- the receipt of a call that is answered looks at all that was seen when the call began
  ahead-left : (turned : Turned) (i : ℕ) → LeavesCaller b ready after stage turned → length ready.receipts ≤ i → i < length after.receipts
      → (receipt_at after.receipts i).at ≢ Previous → length ready.pass.knows.seen ≤ caller_look after i
  ahead-left Step i still past within placed = absurd (omega (arith, past, within, ap (λ (rs : List Receipt). length rs) still.receipts))
  ahead-left (Answer r) i answered past within placed =
      let count = ap (λ (rs : List Receipt). length rs) answered.receipts ∙ length_push ready.receipts r in
      let is : receipt_at after.receipts i ≡ r =
      ap (λ rs. receipt_at rs i) answered.receipts ∙ get_or_push ready.receipts r _ i (omega (arith, past, within, count)) in
      subst (λ (x : Receipt). length ready.pass.knows.seen ≤ look_at after.pass.knows.first after.pass.knows.seen x.at) (sym is)
      (answered.looked (subst (λ (x : Receipt). x.at ≢ Previous) is placed))

  -- which rests on a snapshot of the call, whose seat is then the pass's
  snapshot-left : (turned : Turned) (i : ℕ) → LeavesCaller b ready after stage turned → length ready.receipts ≤ i → i < length after.receipts
      → RestsOnSnapshot b ready.pass.knows after.pass.knows (receipt_at after.receipts i).at × (seat_of after.pass ≡ after.seat)
  snapshot-left Step i still past within = absurd (omega (arith, past, within, ap (λ (rs : List Receipt). length rs) still.receipts))
  snapshot-left (Answer r) i answered past within =
      let count = ap (λ (rs : List Receipt). length rs) answered.receipts ∙ length_push ready.receipts r in
      let is : receipt_at after.receipts i ≡ r =
      ap (λ rs. receipt_at rs i) answered.receipts ∙ get_or_push ready.receipts r _ i (omega (arith, past, within, count)) in (
        subst (λ (x : Receipt). RestsOnSnapshot b ready.pass.knows after.pass.knows x.at) (sym is)
            (snapshot-CallMade b ready.pass after.pass (next_call ready) r answered.made),
        answered.seat,
      )

-- a caller has turned
module _ (b : BookTerms) (published : List Publication) (turned : Turned) (before after : CallerTerms)
    (one : IsTurned b published turned before after) where
  pub HasMore-IsTurned : HasMore before after
  HasMore-IsTurned =
      HasMore-trans before one.ready after (HasMore-ready b published before one.ready after one.stage one.is_ready)
      (HasMore-left b published before one.ready after one.stage turned one.leaves)

  pub count-IsTurned : length after.receipts ≡ length before.receipts + answers_in turned
  count-IsTurned =
      count-left b published before one.ready after one.stage turned one.leaves
      ∙ ap (λ n. n + answers_in turned) (count-ready b published before one.ready after one.stage one.is_ready)

  pub IsTimedCaller-IsTurned : (process : ℕ) → IsTimedCaller process before → IsTimedCaller process after
  IsTimedCaller-IsTurned process was =
      IsTimedCaller-left b published before one.ready after one.stage process turned one.leaves
      (IsTimedCaller-ready b published before one.ready after one.stage process one.is_ready was)

  pub still-IsTurned : after.stage ≢ None → (after.pass ≡ one.ready.pass) × (answers_in turned ≡ 0)
  still-IsTurned going_on = still-left b published before one.ready after one.stage turned one.leaves going_on

  pub ahead-IsTurned : (i : ℕ) → length before.receipts ≤ i → i < length after.receipts → (receipt_at after.receipts i).at ≢ Previous
      → length one.ready.pass.knows.seen ≤ caller_look after i
  ahead-IsTurned i past within placed =
      ahead-left b published before one.ready after one.stage turned i one.leaves
      (omega (arith, past, count-ready b published before one.ready after one.stage one.is_ready)) within placed

  pub snapshot-IsTurned : (i : ℕ) → length before.receipts ≤ i → i < length after.receipts
      → RestsOnSnapshot b one.ready.pass.knows after.pass.knows (receipt_at after.receipts i).at × (seat_of after.pass ≡ after.seat)
  snapshot-IsTurned i past within =
      snapshot-left b published before one.ready after one.stage turned i one.leaves
      (omega (arith, past, count-ready b published before one.ready after one.stage one.is_ready)) within
