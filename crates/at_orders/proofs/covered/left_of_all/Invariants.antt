use Rattle.std.proofs.Common.{Some, map}
use Rattle.at_orders.proofs.Prelude.{contents_of, AreLeft, asked_in_files}
use Rattle.at_orders.proofs.covered.left_of_all.Given as goal

abbrev pub invariant-loop-process : goal.invariant-loop-process
invariant-loop-process l = AreLeft l.book (λ a. asked_in_files l.book a (contents_of l.files) l.process) (map (λ t. Some t.opening) l.book.accounts) l.left.items
