use Rattle.std.proofs.Common.{◌∷◌, [], Some, ap, refl, length, sym, subst}
use Rattle.at_object.proofs.Prelude.{AreTargetsOn, Transfer, Receipt, PaymentMade}
use Rattle.at_object.proofs.Laws.Within.{AreTargetsOn-single, StaysWithin-payment}
use Rattle.at_object.proofs.ledger.Ledger.transfer.Goals.{After-pay_out-reply}
use Rattle.at_object.proofs.ledger.Ledger.transfer.Goals as goal

pub pay_out-reply-requires-clause-targets : goal.pay_out-reply-requires-clause-targets
pay_out-reply-requires-clause-targets c =
    subst (AreTargetsOn (length c.args.self.now.book.accounts)) (sym c.one.ensures) (AreTargetsOn-single _ c.args.to c.args.amount c.requires.to)

pub pay_out-reply-requires-clause-call : goal.pay_out-reply-requires-clause-call
pay_out-reply-requires-clause-call c = ap (λ ts. Some (c.args.from, ts)) (sym c.one.ensures)

-- what was paid, with the one target
made : (c : After-pay_out-reply) → let call = Transfer c.args.from c.args.to c.args.amount in
    PaymentMade c.args.self.now.book c.args.pass.now c.pay_out-reply.new.pass c.args.from ((c.args.to, c.args.amount) ∷ []) call
    (record { call = call; reply = c.pay_out-reply.result.0; at = c.pay_out-reply.result.1 })
made c =
    let call = Transfer c.args.from c.args.to c.args.amount in
    let r : Receipt = record { call = call; reply = c.pay_out-reply.result.0; at = c.pay_out-reply.result.1 } in
    subst (λ ts. PaymentMade c.args.self.now.book c.args.pass.now c.pay_out-reply.new.pass c.args.from ts call r) c.one.ensures
    c.pay_out-reply.ensures.made

pub returns-clause-made : goal.returns-clause-made
returns-clause-made c = made (goal.at.returns-clause-made c).After-pay_out-reply

pub returns-clause-within : goal.returns-clause-within
returns-clause-within c =
    let told = c.pay_out-reply.ensures in
    let call = Transfer c.args.from c.args.to c.args.amount in
    StaysWithin-payment c.args.self.now.book c.args.pass.now c.pay_out-reply.new.pass c.args.from ((c.args.to, c.args.amount) ∷ []) call
    (record { call = call; reply = c.pay_out-reply.result.0; at = c.pay_out-reply.result.1 }) refl (made (goal.at.returns-clause-within c).After-pay_out-reply)
    told.steps told.risen told.exchanges told.exchanges_single told.decides told.decides_elsewhere
