use Rattle.at_orders.proofs.Prelude.{common_steps, IsCallOn-more}
use Rattle.std.proofs.Common.{◌<◌, length, sym, ◌∙◌, arith, ◌^◌}
use Rattle.at_orders.proofs.Requests.{made-read, made-step}
use Rattle.at_orders.proofs.stage.Stage.make.Goals as goal

pub returns-in_default-clause-ledger : goal.returns-in_default-clause-ledger
returns-in_default-clause-ledger c l has =
    let known = c.requires.process_in in
    let counts = c.requires.standing.counts in
    let counted : c.args.process < length c.args.self.now.made.items = omega arith in
    made-read c.args.ground.now c.args.self.now c.args.process c.args.call.now l counted c.requires.next (sym c.payout.ensures ∙ c.in_default.is) has

pub returns-in-Some-clause-ledger : goal.returns-in-Some-clause-ledger
returns-in-Some-clause-ledger c l has =
    made-step c.args.ground.now c.args.self.now c.pay.new.self c.args.process c.in-Some.from c.in-Some.targets c.args.call.now l (sym c.payout.ensures ∙ c.in-Some.is)
    (c.pay.ensures.ledger l has)

pub pay-requires-clause-targets_in : goal.pay-requires-clause-targets_in
pay-requires-clause-targets_in c = grind (arith, common_steps)

pub pay-requires-clause-next : goal.pay-requires-clause-next
pay-requires-clause-next c = grind (arith, common_steps)

pub pay-requires-clause-source_in : goal.pay-requires-clause-source_in
pay-requires-clause-source_in c = grind (arith, common_steps)

pub payout-requires : goal.payout-requires
payout-requires c = IsCallOn-more (length c.args.ground.now.book.accounts) (2 ^ 16) c.args.call.now (omega (arith, c.book-known.ensures.known.book.begun.few_accounts)) c.requires.call_in
