use Rattle.std.proofs.Common.{arith, ◌^◌, length}
use Rattle.at_orders.proofs.Prelude.{common_steps, IsCallOn-more}
use Rattle.at_orders.proofs.stage.Stage.reply.Goals as goal

pub reply_to_pay-requires-clause-next : goal.reply_to_pay-requires-clause-next
reply_to_pay-requires-clause-next c = grind (arith, common_steps)

pub reply_to_pay-requires-clause-source_in : goal.reply_to_pay-requires-clause-source_in
reply_to_pay-requires-clause-source_in c = grind (arith, common_steps)

pub returns-in-None : goal.returns-in-None
returns-in-None c = grind (arith, common_steps)

pub payout-requires : goal.payout-requires
payout-requires c = IsCallOn-more (length c.args.ground.now.book.accounts) (2 ^ 16) c.args.call.now (omega (arith, c.book-known.ensures.known.book.begun.few_accounts)) c.requires.call_in
