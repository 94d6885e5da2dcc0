use Rattle.at_orders.proofs.Prelude.{contents_of, AreFilesAnswers}
use Rattle.at_orders.proofs.whole.whole.Given as goal

abbrev pub invariant-loop-process : goal.invariant-loop-process
invariant-loop-process l = AreFilesAnswers l.book (contents_of l.files) (contents_of l.answers.items) l.process
