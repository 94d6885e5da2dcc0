use Rattle.std.proofs.Common.{◌≡◌, List, [], ◌∷◌, ◌++◌, Some, refl, sym, ap, subst, ◌∙◌}
use Rattle.at_object.proofs.Prelude.{BookTerms, Reply, AreRuns, BoardTerms, IsKept, SeatTerms, IsBetweenCalls, TotalSums, At, Previous, Receipt, PaymentMade, pass_of, PassTerms, PastCall, one_more_call, past_call, refusal_of, Rest}
use Rattle.at_object.specs.Passes.{cost_of_parts, cost_since}
use Rattle.at_object.proofs.Laws.Made.{PaymentMade-refused, refusal_in-payout}
use Rattle.at_object.proofs.ledger.Ledger.pay_out.Goals.{After-refusal, After-refuse}
use Rattle.at_object.proofs.ledger.Ledger.pay_out.Goals as goal

-- what the type of the pass keeps of its seat
kept : (c : After-refuse) → IsKept c.args.pass.now.knows
kept c = subst (λ (t : PassTerms). IsKept t.knows) c.pass.view_is c.known.ensures.seat

-- the receipt of the call
abbrev receipt_of : After-refuse → Receipt
receipt_of c = record { call = c.args.call.now; reply = c.refuse.result.0; at = c.refuse.result.1 }

-- the pass after a refused call with a receipt
abbrev with_refused : PassTerms → Receipt → PassTerms
with_refused pass r = record pass { calls = one_more_call pass.calls; past = pass.past ++ past_call pass pass r ∷ [] }

-- nothing has changed but its calls
refused : (c : After-refuse) → pass_of c.pass.inside.seat c.refuse.new.self ≡ with_refused c.args.pass.now (receipt_of c)
refused c =
    let seat : SeatTerms = c.pass.inside.seat in
    let rest : Rest = c.pass.inside.rest in
    let r : Receipt = record { call = c.args.call.now; reply = c.in-Some.reply; at = Previous } in
    let call : TotalSums → PastCall = λ totals. record {
      receipt = r;
      cost = cost_since (cost_of_parts seat totals.upto) (cost_of_parts seat rest.totals.upto);
    } in
    ap (λ (q : Rest). pass_of seat q) c.refuse.ensures.rest
    ∙ (ap (λ (totals : TotalSums). record (pass_of seat rest) { calls = one_more_call rest.calls.count; past = rest.calls.past ++ call totals ∷ [] })
    c.pass.invariant.counted
    ∙ (ap (λ (t : PassTerms). with_refused t r) c.pass.view_is
    ∙ (ap (λ (reply : Reply). with_refused c.args.pass.now (record { call = c.args.call.now; reply = reply; at = Previous })) (sym c.refuse.ensures.reply)
    ∙ ap (λ (at : At). with_refused c.args.pass.now (record { call = c.args.call.now; reply = c.refuse.result.0; at = at })) (sym c.refuse.ensures.at))))

-- why the payment is refused
why : (c : After-refuse) → refusal_of c.args.self.now.book c.args.pass.now c.args.source ≡ Some c.in-Some.reply
why c =
    sym (ap (λ (t : PassTerms). refusal_of c.args.self.now.book t c.args.source) c.pass.view_is)
    ∙ (sym (ap (λ (t : BoardTerms). refusal_of t.book (pass_of c.pass.inside.seat c.pass.inside.rest) c.args.source) c.self.view_is)
    ∙ (sym c.refusal.ensures ∙ c.in-Some.is))

-- for the account that it names
pub refuse-requires-clause-refused : goal.refuse-requires-clause-refused
refuse-requires-clause-refused c =
    refusal_in-payout c.self.inside.board.book c.args.source c.args.targets.now (pass_of c.pass.inside.seat c.pass.inside.rest) c.args.call.now c.requires.call
    ∙ (sym c.refusal.ensures ∙ c.in-Some.is)

pub returns-in-Some-clause-made : goal.returns-in-Some-clause-made
returns-in-Some-clause-made c =
    let d : After-refuse = (goal.at.returns-in-Some-clause-made c).After-refuse in
    let b : BookTerms = c.args.self.now.book in
    let before : PassTerms = c.args.pass.now in
    let told = c.refuse.ensures in
    let between : IsBetweenCalls b before.knows =
    subst (λ t. IsBetweenCalls t before.knows) c.requires.pass.book
    (subst (λ (t : PassTerms). IsBetweenCalls t.knows.book t.knows) c.pass.view_is c.pass.invariant.pass.between) in
    let r : Receipt = receipt_of d in
    let after : PassTerms = with_refused before r in
    subst (λ (t : PassTerms). PaymentMade b before t c.args.source c.args.targets.now c.args.call.now r) (sym (refused d))
    (PaymentMade-refused b before c.args.source (kept d) c.requires.pass.book between c.requires.source c.args.targets.now c.args.call.now r after.calls after.past
    refl told.at c.requires.call (why d ∙ ap Some (sym told.reply)))

pub returns-in-Some-clause-runs : goal.returns-in-Some-clause-runs
returns-in-Some-clause-runs c =
    let d : After-refuse = (goal.at.returns-in-Some-clause-runs c).After-refuse in
    subst (λ (t : PassTerms). AreRuns c.args.self.now.book t.knows.seen) (sym (refused d))
    (subst (λ (t : BookTerms). AreRuns t c.args.pass.now.knows.seen) c.requires.pass.book (kept d).history.runs)

pub returns-in-Some-clause-past : goal.returns-in-Some-clause-past
returns-in-Some-clause-past c =
    let d : After-refuse = (goal.at.returns-in-Some-clause-past c).After-refuse in
    let before : PassTerms = c.args.pass.now in
    subst (λ (t : PassTerms). t.past ≡ before.past ++ past_call before t (receipt_of d) ∷ []) (sym (refused d)) refl
