use Rattle.at_orders.proofs.Prelude.{contents_of, AreOrdered}
use Rattle.at_orders.proofs.answers.walk_each.Given as goal

abbrev pub invariant-loop-part : goal.invariant-loop-part
invariant-loop-part l = AreOrdered l.book (contents_of l.files) l.parts l.done.items l.part
