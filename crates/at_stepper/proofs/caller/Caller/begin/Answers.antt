use Rattle.std.proofs.Common.{◌≡◌, ◌<◌, ◌∙◌, Option, Some, None, ap, arith, get_or, length, subst, sym}
use Rattle.at_stepper.proofs.Prelude.{get_or_read, vec_capacity, Call, CallingTerms, IsWay, first_step, next_step, refusal_in, pass_of, CallerTerms, calls_left_of, IsCallerOf, StartsNext, caller_of, Making}
use Rattle.at_stepper.proofs.CallerLaws.{IsCallerOf-begun, StartsNext-begun, none-stage_in}
use Rattle.at_stepper.proofs.caller.Caller.begin.Goals.{After-become_next}
use Rattle.at_stepper.proofs.caller.Caller.begin.Goals as goal

-- no call is in the making
none : (c : After-become_next) → c.self.inside.making.calling ≡ None
none c = none-stage_in c.self.inside.making.calling (ap (λ (t : CallerTerms). t.stage) c.self.view_is ∙ c.requires.between)

kept : (c : After-become_next) → IsCallerOf c.self.inside.seat c.self.inside.rest c.self.inside.calls.items c.self.inside.receipts.items None
    (vec_capacity c.self.inside.receipts)
kept c =
    subst (λ (o : Option CallingTerms). IsCallerOf c.self.inside.seat c.self.inside.rest c.self.inside.calls.items c.self.inside.receipts.items o
    (vec_capacity c.self.inside.receipts)) (none c) c.self.invariant

-- the call that was begun is the next one
begun : (c : After-become_next) → c.become_next.new.stage.calling ≡ Some c.start.result
begun c = ap (λ (m : Making). m.calling) c.become_next.ensures

more : (c : After-become_next) → length c.self.inside.receipts.items < length c.self.inside.calls.items
more c = omega (arith, c.requires.left, ap (λ (t : CallerTerms). calls_left_of t) c.self.view_is)

next : (c : After-become_next) → c.start.result.call ≡ get_or c.self.inside.calls.items (length c.self.inside.receipts.items) (Call.Read 0)
next c =
    let at : c.len.result ≡ length c.self.inside.receipts.items = omega (arith, c.len.ensures, c.self.inside.receipts.ok.0) in
    c.start.ensures.call
    ∙ (c.copy-call.ensures
    ∙ (get_or_read c.self.inside.calls.items c.len.result c.index.result.now (omega (arith, at, more c)) c.index.ensures (Call.Read 0)
    ∙ ap (λ k. get_or c.self.inside.calls.items k (Call.Read 0)) at))

book : (c : After-become_next) → c.self.inside.seat.knows.book ≡ c.args.board.now.book
book c = ap (λ (t : CallerTerms). t.seat.knows.book) c.self.view_is ∙ c.requires.board.book

-- its first step is as the pass says
first : (c : After-become_next) → next_step c.args.board.now.book c.start.result.stage
    ≡ first_step (refusal_in c.args.board.now.book (pass_of c.self.inside.seat c.self.inside.rest) c.start.result.call)
first c =
    c.start.ensures.first
    ∙ ap (λ (call : Call). first_step (refusal_in c.args.board.now.book (pass_of c.self.inside.seat c.self.inside.rest) call)) (sym c.start.ensures.call)

pub invariant_of-self : goal.invariant_of-self
invariant_of-self c =
    let told = c.start.ensures in
    subst (λ (o : Option CallingTerms). IsCallerOf c.self.inside.seat c.self.inside.rest c.self.inside.calls.items c.self.inside.receipts.items o
    (vec_capacity c.self.inside.receipts)) (sym (begun c))
    (IsCallerOf-begun c.args.board.now.book c.self.inside.seat c.self.inside.rest c.self.inside.calls.items c.self.inside.receipts.items
    (vec_capacity c.self.inside.receipts) (kept c) (book c) c.known.ensures.seat (more c) c.start.result (next c) told.start told.was told.mark
    told.rest (subst (λ (call : Call). IsWay c.args.board.now.book (pass_of c.self.inside.seat c.self.inside.rest) call c.start.result.stage) (sym told.call) told.way) told.turns told.exchanges told.left told.starts (first c))

pub returns : goal.returns
returns c =
    let told = c.start.ensures in
    subst (λ (o : Option CallingTerms). StartsNext c.args.board.now.book c.args.self.now
    (caller_of c.self.inside.seat c.self.inside.rest c.self.inside.calls.items c.self.inside.receipts.items o)) (sym (begun c))
    (subst (λ (t : CallerTerms). StartsNext c.args.board.now.book t
    (caller_of c.self.inside.seat c.self.inside.rest c.self.inside.calls.items c.self.inside.receipts.items (Some c.start.result)))
    (ap (λ (o : Option CallingTerms). caller_of c.self.inside.seat c.self.inside.rest c.self.inside.calls.items c.self.inside.receipts.items o) (sym (none c))
    ∙ c.self.view_is)
    (StartsNext-begun c.args.board.now.book c.self.inside.seat c.self.inside.rest c.self.inside.calls.items c.self.inside.receipts.items
    (vec_capacity c.self.inside.receipts) (kept c) (book c) c.known.ensures.seat (more c) c.start.result (next c) told.start told.was told.mark
    told.rest (subst (λ (call : Call). IsWay c.args.board.now.book (pass_of c.self.inside.seat c.self.inside.rest) call c.start.result.stage) (sym told.call) told.way) told.turns told.exchanges told.left told.starts (first c)))
