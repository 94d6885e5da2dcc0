use Rattle.std.proofs.Common.{◌==◌, arith}
use Rattle.at_fold.proofs.Prelude.{amount_of}
use Rattle.at_fold.proofs.Amounts.{amount_for-le, cond-le}
use Rattle.at_fold.proofs.totals.Totals.add_amounts.Goals as goal

pub returns-in-Own-clause-small : goal.returns-in-Own-clause-small
returns-in-Own-clause-small c = λ a. rw c.in-Own.is (
  omega (arith, amount_for-le a c.in-Own.targets, c.move_amounts.ensures.small),
  omega (arith, cond-le (c.in-Own.from == a) (amount_of c.in-Own.targets), c.move_amounts.ensures.small),
)

pub returns-then-decision-clause-small : goal.returns-then-decision-clause-small
returns-then-decision-clause-small c = λ a. rw (c.in-Round.is, c.if-decision.true) (
  omega (arith, amount_for-le a c.in-Round.targets, c.move_amounts-then-decision.ensures.small),
  omega (arith, cond-le (c.in-Round.account == a) (amount_of c.in-Round.targets), c.move_amounts-then-decision.ensures.small),
)
