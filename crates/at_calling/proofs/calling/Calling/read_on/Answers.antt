use Rattle.std.proofs.Common.{◌≡◌, ℕ, ◌<◌, ◌↔◌, length, IfSome, IsSome, Option, None, Some, false, true, refl, sym, ap, subst, ◌∙◌, arith}
use Rattle.at_calling.proofs.Prelude.{sum, look_turns_left, Call, BookTerms, AreRuns, IsCallOn, call-CallMade, IsPrefix, raised, SeatTerms, Knowledge, TotalSums, Receipt, Rest, after_one_call, pass_of, CallMade, StaysWithin, with_one_call, CallingTerms, CountsCall, MakesCallStep, call_turns_left, exchanges_made, pass_before, steps_made, IsCallingSo, TakesCallTurn, calling_of, IsReadOf, LeavesTotals, ReadingTerms, CallStage}
use Rattle.at_calling.specs.declared.call_stage.CallStage.TheVariants.{Read}
use Rattle.at_calling.proofs.CallingTurns.{IsCallOn-IsCallingSo, Leaves, TakesCallTurn-stages, calling_next, Leaves-read, few-read, made-Leaves, next_so, still-read, way-read, within-Leaves}
use Rattle.at_calling.proofs.calling.Calling.read_on.Goals.{After-known, After-self}
use Rattle.at_calling.proofs.calling.Calling.read_on.Goals as goal

-- the call before the turn
so : (c : After-self) → IsCallingSo c.args.self.now
so c = subst IsCallingSo c.self.view_is c.self.invariant

stage_is : (c : After-known) → c.args.self.now.stage ≡ Read c.in-Read.reading
stage_is c = sym (ap (λ (t : CallingTerms). t.stage) c.self.view_is) ∙ c.in-Read.is

left : (c : After-known) → 0 < call_turns_left c.args.board.now.book (Read c.in-Read.reading)
left c = subst (λ (k : CallStage). 0 < call_turns_left c.args.board.now.book k) (stage_is c) c.requires.left

runs : (c : After-known) → AreRuns c.args.board.now.book c.turn-read.new.seat.knows.seen
runs c = subst (λ (b : BookTerms). AreRuns b c.turn-read.new.seat.knows.seen) c.turn-read.ensures.board.book c.known.ensures.seat.history.runs

-- what was seen at the start is seen still
begins : (c : After-known) → IsPrefix c.args.self.now.start.knows.seen c.turn-read.new.seat.knows.seen
begins c =
    subst (λ (v : Knowledge). IsPrefix v.seen c.turn-read.new.seat.knows.seen)
    (still-read c.args.board.now c.args.self.now (so (goal.at.After-known c).After-self) c.args.seat.now c.requires.mark c.requires.board c.turn-read.new.seat
    c.turn-read.ensures.board c.in-Read.reading (stage_is c) (left c)).start_is c.turn-read.ensures.loads.more

-- the seat has counted all steps and exchanges of the call
steps : (c : After-known) → c.turn-read.new.seat.steps ≡ raised c.args.self.now.start.steps (c.turn-read.new.self.looking.turns)
steps c =
    let so_far = (so (goal.at.After-known c).After-self).steps in
    omega (arith, c.turn-read.ensures.steps, c.turn-read.ensures.turns, so_far, ap (λ (s : SeatTerms). s.steps) c.requires.mark, ap steps_made (stage_is c))

exchanges : (c : After-known) → c.turn-read.new.seat.exchanges ≡ raised c.args.self.now.start.exchanges (0)
exchanges c =
    let so_far = (so (goal.at.After-known c).After-self).exchanges in
    omega (arith, c.turn-read.ensures.exchanges, so_far, ap (λ (s : SeatTerms). s.exchanges) c.requires.mark, ap exchanges_made (stage_is c))

-- what the turn leaves
turned : (c : After-known) (mark : SeatTerms) → mark ≡ c.turn-read.new.seat → (now : Rest) → now.totals ≡ c.turn-read.new.totals → (rest : Rest)
    → rest ≡ now → (answer : Option Receipt)
    → (IsSome answer ↔ (call_turns_left c.args.board.now.book (Read c.turn-read.new.self) ≡ 0))
    → IfSome answer (Leaves c.args.board.now.book c.args.self.now c.turn-read.new.seat now c.turn-read.new.self.looking.turns 0)
    → IfSome answer (CountsCall c.args.self.now c.turn-read.new.seat now)
    → TakesCallTurn c.args.board.now.book c.args.overview.now.seen c.args.self.now (calling_next (calling_of c.self.inside)
    (Read c.turn-read.new.self) mark rest) c.args.seat.now c.turn-read.new.seat now answer
turned c mark mark_is now totals_are rest rest_is answer ends leaves calls =
    let first = (goal.at.After-known c).After-self in
    let b : BookTerms = c.args.board.now.book in
    let t : CallingTerms = c.args.self.now in
    let p : ReadingTerms = c.in-Read.reading in
    let next : CallStage = Read c.turn-read.new.self in
    let after : SeatTerms = c.turn-read.new.seat in
    let told = c.turn-read.ensures in
    subst (λ (s : CallingTerms). TakesCallTurn b c.args.overview.now.seen t (calling_next s next mark rest) c.args.seat.now after now answer) (sym c.self.view_is)
    (TakesCallTurn-stages b c.args.overview.now.seen t c.args.seat.now after mark mark_is now rest rest_is (Read p) next (stage_is c) answer told.turns
    (subst (λ (s : TotalSums). MakesCallStep b c.args.overview.now.seen (Read p) c.args.seat.now after s) (sym totals_are) told.load)
    (c.turn-read.new.self, refl, told.follows) told.left
    (few-read c.args.board.now t (so first) c.args.seat.now c.requires.mark c.requires.board after told.board p (stage_is c) (left c)
    now.totals c.turn-read.new.self.looking.turns told.so_far (omega (arith, told.counting, ap (λ (s : TotalSums). sum s.upto) totals_are)) told.loads)
    ends (begins c) (runs c) refl leaves calls (steps c) (exchanges c))

pub returns-in_err-receipt-clause-turned : goal.returns-in_err-receipt-clause-turned
returns-in_err-receipt-clause-turned c =
    let known = (goal.at.returns-in_err-receipt-clause-turned c).After-known in
    let now : Rest = record c.args.rest.now { totals = c.turn-read.new.totals } in
    subst (TakesCallTurn c.args.board.now.book c.args.overview.now.seen c.args.self.now (calling_next (calling_of c.self.inside)
    (Read c.turn-read.new.self) c.of.result.value c.of-2.result.value) c.args.seat.now c.turn-read.new.seat now) (sym c.from_residual.ensures)
    (turned known c.of.result.value c.of.ensures now refl c.of-2.result.value c.of-2.ensures None (
      λ some. let wrong : false ≡ true = some in absurd (cc wrong),
      λ none. let wrong : false ≡ true = c.in_err-receipt.ensures.ends.1 none in absurd (cc wrong),
    ) tt tt)

-- the rest of the pass before the call is counted, and after
abbrev rest_before : After-known → Rest
rest_before c = record { totals = c.turn-read.new.totals; sent = c.args.rest.now.sent; calls = c.args.rest.now.calls }

abbrev rest_after : After-known → Receipt → Rest
rest_after c receipt = after_one_call c.args.self.now.start c.turn-read.new.seat receipt (rest_before c)

calls_before : (c : After-known) → c.args.rest.now.calls ≡ c.args.self.now.was.calls
calls_before c =
    let first = (goal.at.After-known c).After-self in
    ap (λ (q : Rest). q.calls) c.requires.rest
    ∙ (still-read c.args.board.now c.args.self.now (so first) c.args.seat.now c.requires.mark c.requires.board c.turn-read.new.seat c.turn-read.ensures.board
    c.in-Read.reading (stage_is c) (left c)).calls_are

calls_after : (c : After-known) (receipt : Receipt) → CountsCall c.args.self.now c.turn-read.new.seat (rest_after c receipt) receipt
calls_after c receipt = ap (with_one_call c.args.self.now.start c.turn-read.new.seat c.turn-read.new.totals receipt) (calls_before c)

-- what the answer leaves
leaves : (c : After-known) (receipt : Receipt)
    → IsReadOf c.args.board.now.book c.in-Read.reading.looking.start c.turn-read.new.seat.knows c.in-Read.reading.account receipt
    → LeavesTotals c.args.board.now.book c.in-Read.reading.looking.start c.turn-read.new.seat.knows c.in-Read.reading.looking.was c.turn-read.new.totals 0
    c.turn-read.new.self.looking.turns
    → Leaves c.args.board.now.book c.args.self.now c.turn-read.new.seat (rest_after c receipt) c.turn-read.new.self.looking.turns 0 receipt
leaves c receipt read totals =
    let first = (goal.at.After-known c).After-self in
    Leaves-read c.args.board.now c.args.self.now (so first) c.args.seat.now c.requires.mark c.requires.board c.turn-read.new.seat c.turn-read.ensures.board
    c.in-Read.reading (stage_is c) (left c) (rest_after c receipt) c.turn-read.new.self.looking.turns receipt
    c.known.ensures.seat read totals c.turn-read.ensures.counted (ap (λ (q : Rest). q.sent) c.requires.rest) (calls_after c receipt)

-- it may be counted
pub count_call-requires-clause-start : goal.count_call-requires-clause-start
count_call-requires-clause-start c = c.self.invariant.pass

pub count_call-requires-clause-calls : goal.count_call-requires-clause-calls
count_call-requires-clause-calls c =
    calls_before (goal.at.count_call-requires-clause-calls c).After-known ∙ sym (ap (λ (t : CallingTerms). t.was.calls) c.self.view_is)

pub count_call-requires-clause-made : goal.count_call-requires-clause-made
count_call-requires-clause-made c =
    let known = (goal.at.count_call-requires-clause-made c).After-known in
    let told = c.in_ok-receipt.ensures in
    let r : Receipt = c.in_ok-receipt.receipt in
    subst (λ (t : CallingTerms). CallMade c.args.board.now.book (pass_before t)
    (pass_of c.turn-read.new.seat (after_one_call t.start c.turn-read.new.seat r (rest_before known))) r.call r) (sym c.self.view_is)
    (made-Leaves c.args.board.now.book c.args.self.now c.turn-read.new.seat (rest_after known r) c.turn-read.new.self.looking.turns 0 r
    (leaves known r told.answer told.leaves))

pub count_call-requires-clause-within : goal.count_call-requires-clause-within
count_call-requires-clause-within c =
    let known = (goal.at.count_call-requires-clause-within c).After-known in
    let told = c.in_ok-receipt.ensures in
    let r : Receipt = c.in_ok-receipt.receipt in
    subst (λ (t : CallingTerms). StaysWithin c.args.board.now.book (pass_before t)
    (pass_of c.turn-read.new.seat (after_one_call t.start c.turn-read.new.seat r (rest_before known))) r.call r) (sym c.self.view_is)
    (within-Leaves c.args.board.now.book c.args.self.now c.turn-read.new.seat (rest_after known r) c.turn-read.new.self.looking.turns 0 r
    (leaves known r told.answer told.leaves)
    (steps known) (exchanges known))

pub count_call-requires-clause-call : goal.count_call-requires-clause-call
count_call-requires-clause-call c =
    let known = (goal.at.count_call-requires-clause-call c).After-known in
    let told = c.in_ok-receipt.ensures in
    let t : CallingTerms = c.args.self.now in
    let r : Receipt = c.in_ok-receipt.receipt in
    let made = (leaves known r told.answer told.leaves).made in
    subst (IsCallOn (length c.args.board.now.book.accounts))
    (sym (call-CallMade c.args.board.now.book (pass_before t) (pass_of c.turn-read.new.seat (rest_after known r)) t.call r made))
    (IsCallOn-IsCallingSo c.args.board.now t (so (goal.at.After-known known).After-self) c.args.seat.now c.requires.mark c.requires.board)

-- the call is answered
pub invariant_of-self-2 : goal.invariant_of-self-2
invariant_of-self-2 c =
    let known = (goal.at.invariant_of-self-2 c).After-known in
    let first = (goal.at.After-known known).After-self in
    let t : CallingTerms = c.args.self.now in
    let q : ReadingTerms = c.turn-read.new.self in
    let told = c.turn-read.ensures in
    let rest : Rest = c.of-3.result.value in
    let none : look_turns_left q.looking.stage ≡ 0 = c.in_ok-receipt.ensures.ends.0 refl in
    let way = way-read c.args.board.now t (so first) c.args.seat.now c.requires.mark c.requires.board c.turn-read.new.seat told.board c.in-Read.reading
    (stage_is known) (left known) in
    let next : IsCallingSo (calling_next t (Read q) c.turn-read.new.seat rest) =
    next_so c.args.board.now t (so first) c.args.seat.now c.requires.mark c.requires.board c.turn-read.new.seat told.board (Read q) rest
    (way ∙ ap (λ (a : ℕ). Call.Read a) (sym told.account)) (steps known) (exchanges known) (λ more. absurd (omega (arith, more, none))) in
    subst (λ (s : CallingTerms). IsCallingSo (calling_next s (Read q) c.of.result.value rest)) (sym c.self.view_is)
    (subst (λ (m : SeatTerms). IsCallingSo (calling_next t (Read q) m rest)) (sym c.of.ensures) next)

pub returns-clause-turned : goal.returns-clause-turned
returns-clause-turned c =
    let known = (goal.at.returns-clause-turned c).After-known in
    let told = c.in_ok-receipt.ensures in
    let r : Receipt = c.in_ok-receipt.receipt in
    let now : Rest = c.count_call.new.self in
    let is : now ≡ rest_after known r =
    c.count_call.ensures ∙ ap (λ (t : CallingTerms). after_one_call t.start c.turn-read.new.seat r (rest_before known)) c.self.view_is in
    turned known c.of.result.value c.of.ensures now (ap (λ (q : Rest). q.totals) is) c.of-3.result.value c.of-3.ensures (Some r)
    (λ some. c.in_ok-receipt.ensures.ends.0 refl, λ none. refl)
    (subst (λ (q : Rest). Leaves c.args.board.now.book c.args.self.now c.turn-read.new.seat q c.turn-read.new.self.looking.turns 0 r) (sym is)
    (leaves known r told.answer told.leaves)) (subst (λ (q : Rest). CountsCall c.args.self.now c.turn-read.new.seat q r) (sym is) (calls_after known r))
