use Rattle.std.proofs.Common.{◌≡◌, ◌<◌, ◌∙◌, Option, Some, None, ap, arith, get_or, length, refl, subst, sym}
use Rattle.at_stepper.proofs.Prelude.{get_or_read, BookTerms, Call, CallingTerms, first_step, refusal_in, pass_of, CallerTerms, IsNextOf, calls_left_of, caller_of}
use Rattle.at_stepper.proofs.NextLaws.{IsNextOf-begins, IsNextOf-going_on}
use Rattle.at_stepper.proofs.caller.Caller.next.Goals as goal

pub returns-in-Some : goal.returns-in-Some
returns-in-Some c =
    let i = c.self.inside in
    let b : BookTerms = c.args.board.now.book in
    let calling : CallingTerms = c.in-Some.calling in
    let was : CallerTerms = caller_of i.seat i.rest i.calls.items i.receipts.items (Some calling) in
    let same : was ≡ c.args.self.now =
    ap (λ (o : Option CallingTerms). caller_of i.seat i.rest i.calls.items i.receipts.items o) (sym c.in-Some.is) ∙ c.self.view_is in
    subst (λ (t : CallerTerms). IsNextOf b t c.next.result) same (IsNextOf-going_on b was calling.stage c.next.result refl c.next.ensures)

pub returns-in-None : goal.returns-in-None
returns-in-None c =
    let i = c.self.inside in
    let b : BookTerms = c.args.board.now.book in
    let was : CallerTerms = caller_of i.seat i.rest i.calls.items i.receipts.items None in
    let same : was ≡ c.args.self.now =
    ap (λ (o : Option CallingTerms). caller_of i.seat i.rest i.calls.items i.receipts.items o) (sym c.in-None.is) ∙ c.self.view_is in
    let more : length i.receipts.items < length i.calls.items = omega (arith, c.requires.left, ap (λ (t : CallerTerms). calls_left_of t) c.self.view_is) in
    let at : c.len.result ≡ length i.receipts.items = omega (arith, c.len.ensures, i.receipts.ok.0) in
    let call_is : c.copy-call.result ≡ get_or i.calls.items (length i.receipts.items) (Call.Read 0) =
    c.copy-call.ensures
    ∙ (get_or_read i.calls.items c.len.result c.index.result.now (omega (arith, at, more)) c.index.ensures (Call.Read 0)
    ∙ ap (λ k. get_or i.calls.items k (Call.Read 0)) at) in
    subst (λ (t : CallerTerms). IsNextOf b t c.step_of_first_turn.result) same
    (IsNextOf-begins b was c.step_of_first_turn.result refl
    (c.step_of_first_turn.ensures ∙ ap (λ (call : Call). first_step (refusal_in b (pass_of i.seat i.rest) call)) call_is))
