use Rattle.std.proofs.Common.{◌≡◌, ◌<◌, ◌↔◌, length, IfSome, IsSome, Option, None, Some, false, true, refl, sym, ap, subst, ◌∙◌, arith}
use Rattle.at_calling.proofs.Prelude.{sum, BookTerms, AreRuns, IsCallOn, IsPrefix, raised, SeatTerms, Knowledge, TotalSums, payout_of, Receipt, sent_after, Rest, after_one_call, pass_of, PassTerms, CallMade, StaysWithin, with_one_call, CallingTerms, CountsCall, MakesCallStep, call_turns_left, exchanges_made, pass_before, steps_made, IsCallingSo, TakesCallTurn, calling_of, PayingAloneTerms, turns_made, CallStage, PayAlone}
use Rattle.at_calling.proofs.CallingTurns.{IsCallOn-IsCallingSo, Leaves, TakesCallTurn-stages, calling_next, made-Leaves, within-Leaves, Leaves-alone, few-alone, small-alone, still-alone, way-alone}
use Rattle.at_calling.proofs.calling.Calling.pay_alone_on.Goals.{After-known, After-receipt_of-receipt, After-self}
use Rattle.at_calling.proofs.calling.Calling.pay_alone_on.Goals as goal

-- the call before the turn
so : (c : After-self) → IsCallingSo c.args.self.now
so c = subst IsCallingSo c.self.view_is c.self.invariant

stage_is : (c : After-known) → c.args.self.now.stage ≡ PayAlone c.in-PayAlone.paying
stage_is c = sym (ap (λ (t : CallingTerms). t.stage) c.self.view_is) ∙ c.in-PayAlone.is

left : (c : After-known) → 0 < call_turns_left c.args.board.now.book (PayAlone c.in-PayAlone.paying)
left c = subst (λ (k : CallStage). 0 < call_turns_left c.args.board.now.book k) (stage_is c) c.requires.left

runs : (c : After-known) → AreRuns c.args.board.now.book c.turn-paid.new.seat.knows.seen
runs c = subst (λ (b : BookTerms). AreRuns b c.turn-paid.new.seat.knows.seen) c.turn-paid.ensures.board.book c.known.ensures.seat.history.runs

-- what was seen at the start is seen still
begins : (c : After-known) → IsPrefix c.args.self.now.start.knows.seen c.turn-paid.new.seat.knows.seen
begins c =
    subst (λ (v : Knowledge). IsPrefix v.seen c.turn-paid.new.seat.knows.seen)
    (still-alone c.args.board.now c.args.self.now (so (goal.at.After-known c).After-self) c.args.seat.now c.requires.mark c.requires.board c.turn-paid.new.seat
    c.turn-paid.ensures.board c.in-PayAlone.paying (stage_is c) (left c)).start_is c.turn-paid.ensures.begins

-- the seat has counted all steps and exchanges of the call
steps : (c : After-known) → c.turn-paid.new.seat.steps ≡ raised c.args.self.now.start.steps (turns_made c.turn-paid.new.self)
steps c =
    let so_far = (so (goal.at.After-known c).After-self).steps in
    omega (arith, c.turn-paid.ensures.steps, c.turn-paid.ensures.turns, so_far, ap (λ (s : SeatTerms). s.steps) c.requires.mark, ap steps_made (stage_is c))

exchanges : (c : After-known) → c.turn-paid.new.seat.exchanges ≡ raised c.args.self.now.start.exchanges (0)
exchanges c =
    let so_far = (so (goal.at.After-known c).After-self).exchanges in
    omega (arith, c.turn-paid.ensures.exchanges, so_far, ap (λ (s : SeatTerms). s.exchanges) c.requires.mark, ap exchanges_made (stage_is c))

-- what the turn leaves
turned : (c : After-known) (mark : SeatTerms) → mark ≡ c.turn-paid.new.seat → (now : Rest) → now.totals ≡ c.turn-paid.new.totals → (rest : Rest)
    → rest ≡ now → (answer : Option Receipt)
    → (IsSome answer ↔ (call_turns_left c.args.board.now.book (PayAlone c.turn-paid.new.self) ≡ 0))
    → IfSome answer (Leaves c.args.board.now.book c.args.self.now c.turn-paid.new.seat now (turns_made c.turn-paid.new.self) 0)
    → IfSome answer (CountsCall c.args.self.now c.turn-paid.new.seat now)
    → TakesCallTurn c.args.board.now.book c.args.overview.now.seen c.args.self.now (calling_next (calling_of c.self.inside)
    (PayAlone c.turn-paid.new.self) mark rest) c.args.seat.now c.turn-paid.new.seat now answer
turned c mark mark_is now totals_are rest rest_is answer ends leaves calls =
    let first = (goal.at.After-known c).After-self in
    let b : BookTerms = c.args.board.now.book in
    let t : CallingTerms = c.args.self.now in
    let p : PayingAloneTerms = c.in-PayAlone.paying in
    let next : CallStage = PayAlone c.turn-paid.new.self in
    let after : SeatTerms = c.turn-paid.new.seat in
    let told = c.turn-paid.ensures in
    subst (λ (s : CallingTerms). TakesCallTurn b c.args.overview.now.seen t (calling_next s next mark rest) c.args.seat.now after now answer) (sym c.self.view_is)
    (TakesCallTurn-stages b c.args.overview.now.seen t c.args.seat.now after mark mark_is now rest rest_is (PayAlone p) next (stage_is c) answer told.turns
    (subst (λ (s : TotalSums). MakesCallStep b c.args.overview.now.seen (PayAlone p) c.args.seat.now after s) (sym totals_are) told.step)
    (c.turn-paid.new.self, refl, told.follows) told.left
    (few-alone c.args.board.now t (so first) c.args.seat.now c.requires.mark c.requires.board after told.board p (stage_is c) (left c)
    now.totals (turns_made c.turn-paid.new.self) told.so_far (omega (arith, told.counting, ap (λ (s : TotalSums). sum s.upto) totals_are)) told.asks)
    ends (begins c) (runs c) refl leaves calls (steps c) (exchanges c))

pub returns-in_err-answer-clause-turned : goal.returns-in_err-answer-clause-turned
returns-in_err-answer-clause-turned c =
    let known = (goal.at.returns-in_err-answer-clause-turned c).After-known in
    let now : Rest = record c.args.rest.now { totals = c.turn-paid.new.totals } in
    subst (TakesCallTurn c.args.board.now.book c.args.overview.now.seen c.args.self.now (calling_next (calling_of c.self.inside)
    (PayAlone c.turn-paid.new.self) c.of.result.value c.of-2.result.value) c.args.seat.now c.turn-paid.new.seat now) (sym c.from_residual.ensures)
    (turned known c.of.result.value c.of.ensures now refl c.of-2.result.value c.of-2.ensures None (
      λ some. let wrong : false ≡ true = some in absurd (cc wrong),
      λ none. let wrong : false ≡ true = c.in_err-answer.ensures.ends.1 none in absurd (cc wrong),
    ) tt tt)

pub sent_after-rest-requires : goal.sent_after-rest-requires
sent_after-rest-requires c =
    let known = (goal.at.sent_after-rest-requires c).After-known in
    let first = (goal.at.After-known known).After-self in
    let t : CallingTerms = c.args.self.now in
    let p : PayingAloneTerms = c.in-PayAlone.paying in
    omega (
      arith,
      small-alone c.args.board.now t (so first) c.args.seat.now c.requires.mark c.requires.board c.turn-paid.new.seat c.turn-paid.ensures.board p
          (stage_is known) (left known),
      (still-alone c.args.board.now t (so first) c.args.seat.now c.requires.mark c.requires.board c.turn-paid.new.seat c.turn-paid.ensures.board p
          (stage_is known) (left known)).sent_is,
      ap (λ (q : Rest). q.sent) c.requires.rest,
    )

-- the receipt of the call
abbrev receipt : After-receipt_of-receipt → Receipt
receipt c = record { call = c.args.self.now.call; reply = c.in_ok-answer.answer.0; at = c.in_ok-answer.answer.1 }

-- the rest of the pass before the call is counted, and after
abbrev rest_before : After-receipt_of-receipt → Rest
rest_before c = record { totals = c.turn-paid.new.totals; sent = c.sent_after-rest.result; calls = c.args.rest.now.calls }

abbrev rest_after : After-receipt_of-receipt → Rest
rest_after c = after_one_call c.args.self.now.start c.turn-paid.new.seat (receipt c) (rest_before c)

calls_before : (c : After-receipt_of-receipt) → c.args.rest.now.calls ≡ c.args.self.now.was.calls
calls_before c =
    let known = (goal.at.After-receipt_of-receipt c).After-known in
    let first = (goal.at.After-known known).After-self in
    ap (λ (q : Rest). q.calls) c.requires.rest
    ∙ (still-alone c.args.board.now c.args.self.now (so first) c.args.seat.now c.requires.mark c.requires.board c.turn-paid.new.seat c.turn-paid.ensures.board
    c.in-PayAlone.paying (stage_is known) (left known)).calls_are

calls_after : (c : After-receipt_of-receipt) → CountsCall c.args.self.now c.turn-paid.new.seat (rest_after c) (receipt c)
calls_after c = ap (with_one_call c.args.self.now.start c.turn-paid.new.seat c.turn-paid.new.totals (receipt c)) (calls_before c)

-- it is one of the payment
way : (c : After-receipt_of-receipt) → let p = c.in-PayAlone.paying in payout_of c.args.self.now.call ≡ Some (p.from, p.targets)
way c =
    let known = (goal.at.After-receipt_of-receipt c).After-known in
    (way-alone c.args.board.now c.args.self.now (so (goal.at.After-known known).After-self) c.args.seat.now c.requires.mark c.requires.board c.turn-paid.new.seat
    c.turn-paid.ensures.board c.in-PayAlone.paying (stage_is known) (left known)).0

leaves : (c : After-receipt_of-receipt)
    → Leaves c.args.board.now.book c.args.self.now c.turn-paid.new.seat (rest_after c) (turns_made c.turn-paid.new.self) 0 (receipt c)
leaves c =
    let known = (goal.at.After-receipt_of-receipt c).After-known in
    let first = (goal.at.After-known known).After-self in
    let told = c.in_ok-answer.ensures in
    Leaves-alone c.args.board.now c.args.self.now (so first) c.args.seat.now c.requires.mark c.requires.board c.turn-paid.new.seat c.turn-paid.ensures.board
    c.in-PayAlone.paying (stage_is known) (left known) (rest_after c) (turns_made c.turn-paid.new.self)
    (receipt c) c.known.ensures.seat (told.answer c.args.self.now.call (way c)) told.leaves told.counted
    (c.sent_after-rest.ensures ∙ ap (λ (q : Rest). sent_after q.sent c.in_ok-answer.answer.0) c.requires.rest) (calls_after c)

-- it may be counted
same_receipt : (c : After-receipt_of-receipt) → c.receipt_of-receipt.result ≡ receipt c
same_receipt c =
    c.receipt_of-receipt.ensures
    ∙ ap (λ (s : CallingTerms). let r : Receipt = record { call = s.call; reply = c.in_ok-answer.answer.0; at = c.in_ok-answer.answer.1 } in r) c.self.view_is

pub count_call-requires-clause-start : goal.count_call-requires-clause-start
count_call-requires-clause-start c = c.self.invariant.pass

pub count_call-requires-clause-calls : goal.count_call-requires-clause-calls
count_call-requires-clause-calls c =
    calls_before (goal.at.count_call-requires-clause-calls c).After-receipt_of-receipt ∙ sym (ap (λ (t : CallingTerms). t.was.calls) c.self.view_is)

pub count_call-requires-clause-made : goal.count_call-requires-clause-made
count_call-requires-clause-made c =
    let ended = (goal.at.count_call-requires-clause-made c).After-receipt_of-receipt in
    let b : BookTerms = c.args.board.now.book in
    let after : SeatTerms → Receipt → PassTerms =
    λ start r. pass_of c.turn-paid.new.seat (after_one_call start c.turn-paid.new.seat r (rest_before ended)) in
    let r : Receipt = c.receipt_of-receipt.result in
    subst (λ (t : CallingTerms). CallMade b (pass_before t) (after t.start r) r.call r) (sym c.self.view_is)
    (subst (λ (q : Receipt). CallMade b (pass_before c.args.self.now) (after c.args.self.now.start q) q.call q) (sym (same_receipt ended))
    (made-Leaves b c.args.self.now c.turn-paid.new.seat (rest_after ended) (turns_made c.turn-paid.new.self) 0 (receipt ended) (leaves ended)))

pub count_call-requires-clause-within : goal.count_call-requires-clause-within
count_call-requires-clause-within c =
    let ended = (goal.at.count_call-requires-clause-within c).After-receipt_of-receipt in
    let b : BookTerms = c.args.board.now.book in
    let after : SeatTerms → Receipt → PassTerms =
    λ start r. pass_of c.turn-paid.new.seat (after_one_call start c.turn-paid.new.seat r (rest_before ended)) in
    let r : Receipt = c.receipt_of-receipt.result in
    subst (λ (t : CallingTerms). StaysWithin b (pass_before t) (after t.start r) r.call r) (sym c.self.view_is)
    (subst (λ (q : Receipt). StaysWithin b (pass_before c.args.self.now) (after c.args.self.now.start q) q.call q) (sym (same_receipt ended))
    (within-Leaves b c.args.self.now c.turn-paid.new.seat (rest_after ended) (turns_made c.turn-paid.new.self) 0 (receipt ended) (leaves ended)
    (steps (goal.at.After-receipt_of-receipt ended).After-known) (exchanges (goal.at.After-receipt_of-receipt ended).After-known)))

pub count_call-requires-clause-call : goal.count_call-requires-clause-call
count_call-requires-clause-call c =
    let ended = (goal.at.count_call-requires-clause-call c).After-receipt_of-receipt in
    let known = (goal.at.After-receipt_of-receipt ended).After-known in
    let t : CallingTerms = c.args.self.now in
    subst (λ (r : Receipt). IsCallOn (length c.args.board.now.book.accounts) r.call) (sym (same_receipt ended))
    (IsCallOn-IsCallingSo c.args.board.now t (so (goal.at.After-known known).After-self) c.args.seat.now c.requires.mark c.requires.board)

pub returns-clause-turned : goal.returns-clause-turned
returns-clause-turned c =
    let ended = (goal.at.returns-clause-turned c).After-receipt_of-receipt in
    let known = (goal.at.After-receipt_of-receipt ended).After-known in
    let b : BookTerms = c.args.board.now.book in
    let next : CallingTerms = calling_next (calling_of c.self.inside) (PayAlone c.turn-paid.new.self) c.of.result.value c.of-3.result.value in
    let now : Rest = c.count_call.new.self in
    let is : now ≡ rest_after ended =
    c.count_call.ensures
    ∙ (ap (λ (t : CallingTerms). after_one_call t.start c.turn-paid.new.seat c.receipt_of-receipt.result (rest_before ended)) c.self.view_is
    ∙ ap (λ (r : Receipt). after_one_call c.args.self.now.start c.turn-paid.new.seat r (rest_before ended)) (same_receipt ended)) in
    subst (λ (r : Receipt). TakesCallTurn b c.args.overview.now.seen c.args.self.now next c.args.seat.now c.turn-paid.new.seat now (Some r)) (sym (same_receipt ended))
    (turned known c.of.result.value c.of.ensures now (ap (λ (q : Rest). q.totals) is) c.of-3.result.value c.of-3.ensures (Some (receipt ended))
    (λ some. c.in_ok-answer.ensures.ends.0 refl, λ none. refl)
    (subst (λ (q : Rest). Leaves b c.args.self.now c.turn-paid.new.seat q (turns_made c.turn-paid.new.self) 0 (receipt ended)) (sym is) (leaves ended))
    (subst (λ (q : Rest). CountsCall c.args.self.now c.turn-paid.new.seat q (receipt ended)) (sym is) (calls_after ended)))
