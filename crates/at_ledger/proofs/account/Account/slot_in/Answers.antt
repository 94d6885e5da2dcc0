-- `position` finds the slot.
use Rattle.std.proofs.Common.{rules, tests, eqb, sym, ◌∙◌, arith}
use Rattle.at_ledger.proofs.Prelude.{common_steps, YieldsList-from_slice, position_from_yields_List}
use Rattle.at_ledger.proofs.account.Account.slot_in.Goals as goal

pub returns-in_err-slot-clause-slot : goal.returns-in_err-slot-clause-slot
returns-in_err-slot-clause-slot c =
    c.from_residual.ensures ∙ (sym c.in_err-slot.was
    ∙ position_from_yields_List (λ owner. eqb owner c.args.process) _ _ c.position.result c.position.ensures.ran
    (YieldsList-from_slice c.args.self.now.owners cc) (λ x b q k. search (rules, tests)))

pub returns-clause-slot : goal.returns-clause-slot
returns-clause-slot c =
    sym c.in_ok-slot.was
    ∙ position_from_yields_List (λ owner. eqb owner c.args.process) _ _ c.position.result c.position.ensures.ran
    (YieldsList-from_slice c.args.self.now.owners cc) (λ x b q k. search (rules, tests))

pub returns-clause-owner : goal.returns-clause-owner
returns-clause-owner c = grind (arith, common_steps)

pub returns-in_err-slot-clause-owner : goal.returns-in_err-slot-clause-owner
returns-in_err-slot-clause-owner c = grind (arith, common_steps)

pub returns-in_err-slot-clause-within : goal.returns-in_err-slot-clause-within
returns-in_err-slot-clause-within c = grind (arith, common_steps)

pub returns-clause-within : goal.returns-clause-within
returns-clause-within c = grind (arith, common_steps)

pub position-requires-clause-fits : goal.position-requires-clause-fits
position-requires-clause-fits c = grind (arith, common_steps)
