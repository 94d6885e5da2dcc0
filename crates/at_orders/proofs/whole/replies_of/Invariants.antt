use Rattle.at_orders.proofs.Prelude.{contents_of, AreFirstAnswers}
use Rattle.at_orders.proofs.whole.replies_of.Given as goal

abbrev pub invariant-loop-i : goal.invariant-loop-i
invariant-loop-i l = AreFirstAnswers l.book (contents_of l.files) l.process l.replies.items l.i
