use Rattle.std.proofs.Common.{◌∙◌, arith}
use Rattle.at_payments.proofs.Prelude.{le-leb, leb-true}
use Rattle.at_payments.proofs.looks.covers.Goals as goal

pub returns : goal.returns
returns c = λ b seen counts cut.
    let balance = c.from.ensures ∙ c.balance.ensures b seen counts cut in (
      (λ covered. omega (arith, leb-true c.sum.result c.from.result covered, c.sum.ensures.sum, balance)),
      (λ less. le-leb c.sum.result c.from.result (omega (arith, less, c.sum.ensures.sum, balance))),
    )
