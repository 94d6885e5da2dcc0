use Rattle.at_journal.proofs.OrderSteps.{HasOrder}
use Rattle.at_journal.proofs.order.order_of.Given as goal

abbrev pub invariant-loop-place : goal.invariant-loop-place
invariant-loop-place l = HasOrder l.closing l.place l.order.items l.listed
