use Rattle.std.proofs.Common.{◌≡◌, ◌++◌, get_or}
use Rattle.at_journal.proofs.Prelude.{records_between}
use Rattle.at_journal.proofs.order.push_next.Given as goal

abbrev pub invariant-loop-p : goal.invariant-loop-p
invariant-loop-p l = l.order.items ≡ l.fn.order.items ++ records_between l.p (λ p. get_or l.listed p 0) (λ p. get_or l.cut p 0)
