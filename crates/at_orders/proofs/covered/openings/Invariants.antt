use Rattle.std.proofs.Common.{◌≡◌, Some, map, take}
use Rattle.at_orders.proofs.covered.openings.Given as goal

abbrev pub invariant-loop-account : goal.invariant-loop-account
invariant-loop-account l = l.left.items ≡ map (λ t. Some t.opening) (take l.account l.book.accounts)
