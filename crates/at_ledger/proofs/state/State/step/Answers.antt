use Rattle.std.proofs.Common.{arith, ap, subst, ◌^◌, length}
use Rattle.at_ledger.proofs.Prelude.{common_steps, IsBook, LedgerState}
use Rattle.at_ledger.proofs.Calls.{IsCallOn-more}
use Rattle.at_ledger.proofs.state.State.step.Goals as goal

pub payout-requires : goal.payout-requires
payout-requires c =
    IsCallOn-more (length c.args.self.now.book.accounts) (2 ^ 16) c.args.call.now
    (let book = subst IsBook (ap (λ (s : LedgerState). s.book) c.self.view_is) c.known.ensures.checked in omega (arith, book.begun.few_accounts)) c.requires.call_in

pub balance-requires : goal.balance-requires
balance-requires c = grind (arith, common_steps)

pub pay-requires-clause-source_in : goal.pay-requires-clause-source_in
pay-requires-clause-source_in c = grind (arith, common_steps)

pub pay-requires-clause-targets_in : goal.pay-requires-clause-targets_in
pay-requires-clause-targets_in c = grind (arith, common_steps)
