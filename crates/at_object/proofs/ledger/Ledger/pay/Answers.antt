use Rattle.std.proofs.Common.{◌≡◌, Some, ap}
use Rattle.at_object.proofs.Prelude.{Pay}
use Rattle.at_object.proofs.Laws.Within.{StaysWithin-payment}
use Rattle.at_object.proofs.ledger.Ledger.pay.Goals as goal

pub returns-clause-within : goal.returns-clause-within
returns-clause-within c =
    let told = c.pay_out-reply.ensures in
    let call = Pay c.args.from c.args.targets in
    let same : c.args.targets ≡ c.in-Pay.targets = cc c.in-Pay.is in
    StaysWithin-payment c.args.self.now.book c.args.pass.now c.pay_out-reply.new.pass c.args.from c.in-Pay.targets call
    (record { call = call; reply = c.pay_out-reply.result.0; at = c.pay_out-reply.result.1 }) (ap (λ ts. Some (c.args.from, ts)) same) told.made told.steps told.risen
    told.exchanges told.exchanges_single told.decides told.decides_elsewhere
