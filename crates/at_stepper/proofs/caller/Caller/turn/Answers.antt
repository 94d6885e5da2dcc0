use Rattle.std.proofs.Common.{◌≡◌, ◌∙◌, ◌<◌, Option, Some, None, IfSome, ap, arith, refl, subst, sym}
use Rattle.at_stepper.proofs.Prelude.{vec_capacity, Receipt, published-MakesCallStep, CallingTerms, call_turns_left, CallerTerms, IsCallerOf, TakesTurn, caller_of, Making, Answer, Step}
use Rattle.at_stepper.proofs.CallerLaws.{IsCallerOf-answered, IsCallerOf-turned, TakesTurn-answered, TakesTurn-caller, TakesTurn-turned, left-going_on, own_seen-published}
use Rattle.at_stepper.proofs.StepLaws.{process-MakesCallStep}
use Rattle.at_stepper.proofs.caller.Caller.turn.Goals.{After-become_next}
use Rattle.at_stepper.proofs.caller.Caller.turn.Goals as goal

pub returns-in_default-made-clause-turned : goal.returns-in_default-made-clause-turned
returns-in_default-made-clause-turned c =
    let b = c.args.board.now.book in
    let seat = c.self.inside.seat in
    let rest = c.self.inside.rest in
    let calls = c.self.inside.calls.items in
    let receipts = c.self.inside.receipts.items in
    let room = vec_capacity c.self.inside.receipts in
    let calling = c.in-Some.calling in
    let next = c.turn-made.new.self in
    let told = c.turn-made.ensures in
    let was = caller_of seat rest calls receipts (Some calling) in
    let after = caller_of c.turn-made.new.seat c.turn-made.new.rest calls receipts (Some next) in
    let now : was ≡ c.args.self.now = ap (λ (o : Option CallingTerms). caller_of seat rest calls receipts o) (sym c.in-Some.is) ∙ c.self.view_is in
    let left : 0 < call_turns_left b next.stage = left-going_on c.turn-made.result (call_turns_left b next.stage) told.ends c.in_default-made.not-Some in
    TakesTurn-caller b c.args.overview.now.seen was c.args.self.now after Step calling.stage now refl
    (TakesTurn-turned b seat rest calls receipts calling room
    (subst (λ (o : Option CallingTerms). IsCallerOf seat rest calls receipts o room) c.in-Some.is c.self.invariant)
    (ap (λ (t : CallerTerms). t.seat.knows.book) c.self.view_is ∙ c.requires.board.book) next c.turn-made.new.seat c.turn-made.new.rest
    c.known-2.ensures.seat told.board.book told.call told.start told.was told.turns told.exchanges_made told.left told.begins told.so_far left told.mark
    told.rest c.args.overview.now.seen told.step told.follows told.steps told.exchanges
    (own_seen-published b was after calling.stage c.known.ensures.seat c.known-2.ensures.seat
    (published-MakesCallStep b c.args.overview.now.seen calling.stage seat c.turn-made.new.seat c.turn-made.new.rest.totals
    (omega (arith, c.known.ensures.seat.one_part)) told.step)))

pub invariant_of-self : goal.invariant_of-self
invariant_of-self c =
    let b = c.args.board.now.book in
    let seat = c.self.inside.seat in
    let rest = c.self.inside.rest in
    let calls = c.self.inside.calls.items in
    let receipts = c.self.inside.receipts.items in
    let room = vec_capacity c.self.inside.receipts in
    let next = c.turn-made.new.self in
    let told = c.turn-made.ensures in
    IsCallerOf-turned b seat rest calls receipts c.in-Some.calling room
    (subst (λ (o : Option CallingTerms). IsCallerOf seat rest calls receipts o room) c.in-Some.is c.self.invariant)
    (ap (λ (t : CallerTerms). t.seat.knows.book) c.self.view_is ∙ c.requires.board.book) next c.turn-made.new.seat c.turn-made.new.rest
    c.known-2.ensures.seat told.board.book told.call told.start told.was told.turns told.exchanges_made told.left told.begins told.so_far
    (left-going_on c.turn-made.result (call_turns_left b next.stage) told.ends c.in_default-made.not-Some) told.mark told.rest

-- behind an answer no call is in the making
ended : (c : After-become_next) → c.become_next.new.stage.calling ≡ None
ended c = ap (λ (m : Making). m.calling) c.become_next.ensures

pub invariant_of-self-2 : goal.invariant_of-self-2
invariant_of-self-2 c =
    let seat = c.self.inside.seat in
    let rest = c.self.inside.rest in
    let calls = c.self.inside.calls.items in
    let receipts = c.self.inside.receipts.items in
    let room = vec_capacity c.self.inside.receipts in
    let told = c.turn-made.ensures in
    let made = c.in-Some-made.ensures in
    subst (λ (o : Option CallingTerms). IsCallerOf c.turn-made.new.seat c.turn-made.new.rest calls c.push_reserved.new.self.items o
    (vec_capacity c.push_reserved.new.self)) (sym (ended c))
    (IsCallerOf-answered c.args.board.now.book seat rest calls receipts c.in-Some.calling room
    (subst (λ (o : Option CallingTerms). IsCallerOf seat rest calls receipts o room) c.in-Some.is c.self.invariant)
    (ap (λ (t : CallerTerms). t.seat.knows.book) c.self.view_is ∙ c.requires.board.book) c.turn-made.new.self c.turn-made.new.seat
    c.turn-made.new.rest c.known-2.ensures.seat told.board.book told.call told.start told.was told.turns told.exchanges_made told.left told.begins
    told.so_far c.in-Some-made.receipt made.made made.stands made.kept made.calls made.within made.refused c.push_reserved.new.self.items
    c.push_reserved.ensures.items (vec_capacity c.push_reserved.new.self) c.push_reserved.ensures.capacity)

pub returns-clause-turned : goal.returns-clause-turned
returns-clause-turned c =
    let b = c.args.board.now.book in
    let seat = c.self.inside.seat in
    let rest = c.self.inside.rest in
    let calls = c.self.inside.calls.items in
    let receipts = c.self.inside.receipts.items in
    let room = vec_capacity c.self.inside.receipts in
    let calling = c.in-Some.calling in
    let told = c.turn-made.ensures in
    let made = c.in-Some-made.ensures in
    let was = caller_of seat rest calls receipts (Some calling) in
    let after = caller_of c.turn-made.new.seat c.turn-made.new.rest calls c.push_reserved.new.self.items None in
    let now : was ≡ c.args.self.now = ap (λ (o : Option CallingTerms). caller_of seat rest calls receipts o) (sym c.in-Some.is) ∙ c.self.view_is in
    subst (λ (o : Option CallingTerms). IfSome c.args.self.now.stage (TakesTurn b c.args.overview.now.seen c.args.self.now
    (caller_of c.turn-made.new.seat c.turn-made.new.rest calls c.push_reserved.new.self.items o) (Answer c.copy_of-answer.result))) (sym (ended c))
    (TakesTurn-caller b c.args.overview.now.seen was c.args.self.now after (Answer c.copy_of-answer.result) calling.stage now refl
    (subst (λ (r : Receipt). TakesTurn b c.args.overview.now.seen was after (Answer r) calling.stage) (sym c.copy_of-answer.ensures)
    (TakesTurn-answered b seat rest calls receipts calling room
    (subst (λ (o : Option CallingTerms). IsCallerOf seat rest calls receipts o room) c.in-Some.is c.self.invariant)
    (ap (λ (t : CallerTerms). t.seat.knows.book) c.self.view_is ∙ c.requires.board.book) c.turn-made.new.self c.turn-made.new.seat
    c.turn-made.new.rest c.known-2.ensures.seat told.board.book told.call told.start told.was told.turns told.exchanges_made told.left told.begins
    told.so_far c.in-Some-made.receipt made.made made.stands made.kept made.calls made.within made.refused c.push_reserved.new.self.items
    c.push_reserved.ensures.items c.args.overview.now.seen told.step (c.turn-made.new.self.stage, told.follows, made.ends.0 refl) told.steps told.exchanges
    (own_seen-published b was after calling.stage c.known.ensures.seat c.known-2.ensures.seat
    (published-MakesCallStep b c.args.overview.now.seen calling.stage seat c.turn-made.new.seat c.turn-made.new.rest.totals
    (omega (arith, c.known.ensures.seat.one_part)) told.step)))))

-- the step leaves the seat with its process
pub returns-in_default-made-clause-process : goal.returns-in_default-made-clause-process
returns-in_default-made-clause-process c =
    process-MakesCallStep c.args.board.now.book c.args.overview.now.seen c.self.inside.seat c.turn-made.new.seat c.turn-made.new.rest.totals
    c.in-Some.calling.stage c.turn-made.ensures.step
    ∙ ap (λ (t : CallerTerms). t.seat.knows.first) c.self.view_is

pub returns-clause-process : goal.returns-clause-process
returns-clause-process c =
    process-MakesCallStep c.args.board.now.book c.args.overview.now.seen c.self.inside.seat c.turn-made.new.seat c.turn-made.new.rest.totals
    c.in-Some.calling.stage c.turn-made.ensures.step
    ∙ ap (λ (t : CallerTerms). t.seat.knows.first) c.self.view_is
