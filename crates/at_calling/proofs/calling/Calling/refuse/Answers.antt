use Rattle.std.proofs.Common.{◌≡◌, ℕ, Some, length, refl, sym, ap, subst, ◌∙◌, arith}
use Rattle.at_calling.proofs.Prelude.{AreRuns, BookTerms, Reply, SeatTerms, At, Previous, Receipt, TotalSums, IsCallOn, with_one_call, after_one_call, pass_of, refusal_in, IsOfOnePass, Rest, CallingTerms, exchanges_made, pass_before, steps_made, IsCallingSo, TakesCallTurn, calling_of, CallStage, Refuse, Refused}
use Rattle.at_calling.proofs.CallingTurns.{IsCallOn-IsCallingSo, IsCallWithin-none, Leaves, Leaves-refused, TakesCallTurn-stages, begins-refused, calling_next, pass-refused, start-refused, because-refused, undecided-refused, was-refused}
use Rattle.at_calling.proofs.calling.Calling.refuse.Goals.{After-self}
use Rattle.at_calling.proofs.calling.Calling.refuse.Goals as goal

pub refuse-answer-requires-clause-call : goal.refuse-answer-requires-clause-call
refuse-answer-requires-clause-call c =
    let t : CallingTerms = c.args.self.now in
    let so : IsCallingSo t = subst IsCallingSo c.self.view_is c.self.invariant in
    subst (λ (s : CallingTerms). IsCallOn (length c.args.board.now.book.accounts) s.call) (sym c.self.view_is)
    (IsCallOn-IsCallingSo c.args.board.now t so c.args.seat.now c.requires.mark c.requires.board)

-- the call that is refused is counted for the pass
pub refuse-answer-requires-clause-pass : goal.refuse-answer-requires-clause-pass
refuse-answer-requires-clause-pass c =
    let t : CallingTerms = c.args.self.now in
    let so : IsCallingSo t = subst IsCallingSo c.self.view_is c.self.invariant in
    subst (IsOfOnePass c.args.seat.now) (sym c.requires.rest)
    (pass-refused c.args.board.now t so c.args.seat.now c.requires.mark c.requires.board c.args.reply c.requires.stage)

pub refuse-answer-requires-clause-refused : goal.refuse-answer-requires-clause-refused
refuse-answer-requires-clause-refused c =
    let t : CallingTerms = c.args.self.now in
    let so : IsCallingSo t = subst IsCallingSo c.self.view_is c.self.invariant in
    subst (λ (q : Rest). refusal_in c.args.board.now.book (pass_of c.args.seat.now q) c.self.inside.call ≡ Some c.args.reply) (sym c.requires.rest)
    (subst (λ (s : CallingTerms). refusal_in c.args.board.now.book (pass_of c.args.seat.now t.rest) s.call ≡ Some c.args.reply) (sym c.self.view_is)
    (because-refused c.args.board.now t so c.args.seat.now c.requires.mark c.requires.board c.args.reply c.requires.stage))

pub returns : goal.returns
returns c = λ seen.
    let b : BookTerms = c.args.board.now.book in
    let t : CallingTerms = c.args.self.now in
    let seat : SeatTerms = c.args.seat.now in
    let so : IsCallingSo t = subst IsCallingSo c.self.view_is c.self.invariant in
    let now : Rest = c.refuse-answer.new.self in
    let r : Receipt = record { call = t.call; reply = c.args.reply; at = Previous } in
    let now_is : now ≡ after_one_call seat seat r t.rest =
    c.refuse-answer.ensures.rest
    ∙ (ap (λ (s : CallingTerms). after_one_call seat seat (record { call = s.call; reply = c.args.reply; at = Previous }) c.args.rest.now) c.self.view_is
    ∙ ap (after_one_call seat seat r) c.requires.rest) in
    let receipt : c.receipt_of.result ≡ r =
    c.receipt_of.ensures
    ∙ (ap (λ (s : CallingTerms). let r : Receipt = record { call = s.call; reply = c.refuse-answer.result.0; at = c.refuse-answer.result.1 } in r) c.self.view_is
    ∙ (ap (λ (reply : Reply). let r : Receipt = record { call = t.call; reply = reply; at = c.refuse-answer.result.1 } in r) c.refuse-answer.ensures.reply
    ∙ ap (λ (at : At). let r : Receipt = record { call = t.call; reply = c.args.reply; at = at } in r) c.refuse-answer.ensures.at)) in
    let leaves : Leaves b t seat now 0 0 r =
    subst (λ (q : Rest). Leaves b t seat q 0 0 r) (sym now_is)
    (Leaves-refused c.args.board.now t so seat c.requires.mark c.requires.board c.args.reply c.requires.stage r refl refl refl) in
    let start : seat ≡ t.start = c.requires.mark ∙ start-refused c.args.board.now t so seat c.requires.mark c.requires.board c.args.reply c.requires.stage in
    let was = was-refused c.args.board.now t so seat c.requires.mark c.requires.board c.args.reply c.requires.stage in
    subst (λ (x : Receipt). TakesCallTurn b seen t (calling_next (calling_of c.self.inside) c.become_next.new.stage c.self.inside.mark.value
    c.of.result.value) seat seat now (Some x)) (sym receipt)
    (subst (λ (k : CallStage). TakesCallTurn b seen t (calling_next (calling_of c.self.inside) k c.self.inside.mark.value
    c.of.result.value) seat seat now (Some r)) (sym c.become_next.ensures)
    (subst (λ (s : CallingTerms). TakesCallTurn b seen t (calling_next s Refused s.mark c.of.result.value) seat seat now (Some r)) (sym c.self.view_is)
    (TakesCallTurn-stages b seen t seat seat t.mark (sym c.requires.mark) now c.of.result.value c.of.ensures (Refuse c.args.reply) Refused c.requires.stage (Some r)
    refl refl refl (omega arith) (IsCallWithin-none b (pass_before t) t.call seat.knows now.totals.upto 0
    (undecided-refused c.args.board.now t so seat c.requires.mark c.requires.board c.args.reply c.requires.stage) (omega arith) (omega arith)) (λ some. refl, λ none. refl)
    (begins-refused c.args.board.now t so seat c.requires.mark c.requires.board c.args.reply c.requires.stage)
    (subst (λ (k : BookTerms). AreRuns k seat.knows.seen) c.requires.board.book c.known.ensures.seat.history.runs) refl leaves
    (ap (λ (q : Rest). q.calls) now_is
    ∙ (ap (λ (q : Rest). with_one_call seat seat q.totals r q.calls) was
    ∙ (ap (λ (s : SeatTerms). with_one_call s seat t.was.totals r t.was.calls) start
    ∙ ap (λ (totals : TotalSums). with_one_call t.start seat totals r t.was.calls) (sym (ap (λ (q : Rest). q.totals) now_is ∙ ap (λ (q : Rest). q.totals) was)))))
    (omega (arith, so.steps, ap (λ (s : SeatTerms). s.steps) c.requires.mark, ap steps_made c.requires.stage))
    (omega (arith, so.exchanges, ap (λ (s : SeatTerms). s.exchanges) c.requires.mark, ap exchanges_made c.requires.stage)))))
