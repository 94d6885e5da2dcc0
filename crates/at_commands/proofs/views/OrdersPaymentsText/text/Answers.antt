use Rattle.std.proofs.Common.{ap, inr, refl, Err}
use Rattle.at_commands.proofs.Prelude.{contents_of}
use Rattle.at_commands.proofs.Laws.Commands.{IfOk-printed}
use Rattle.at_commands.proofs.Laws.Forms.{IsPlayable-loaded}
use Rattle.at_commands.proofs.views.OrdersPaymentsText.text.Goals as goal

pub orders-requires-clause-files : goal.orders-requires-clause-files
orders-requires-clause-files g c = rw c.as_slice.ensures.value (IsPlayable-loaded c.args.loaded c.requires)

pub orders_text-requires-clause-files : goal.orders_text-requires-clause-files
orders_text-requires-clause-files g c = rw c.as_slice-2.ensures.value (IsPlayable-loaded c.args.loaded c.requires)

pub returns-in-Err-TooManyOrders-clause-err : goal.returns-in-Err-TooManyOrders-clause-err
returns-in-Err-TooManyOrders-clause-err g c =
    let refused = c.in-Err-TooManyOrders.ensures in
    let is = ap Err c.in-Err-TooManyOrders.field-0-is in
    inr (tt, record { uncovered = λ covers. refused.covered (rw c.as_slice.ensures.value covers) is; stages = rw c.as_slice.ensures.value at (refused.many is) })

pub returns-clause-prints : goal.returns-clause-prints
returns-clause-prints g c =
    IfOk-printed _ c.of.result _ _ c.of.ensures.text c.of.ensures.closed (
      refl,
      record {
        answers = contents_of c.in-Ok.answers.items;
        are = rw c.as_slice.ensures.value at c.in-Ok.ensures.answers;
        printed = rw (c.as_slice-2.ensures.value, c.as_slice-3.ensures.value) at c.in_ok-text.ensures;
      },
    )
