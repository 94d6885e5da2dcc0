use Rattle.std.proofs.Common.{◌≡◌, map, take}
use Rattle.at_broadcast.proofs.log_book.LogBook.openings.Given as goal

abbrev pub invariant-loop-account : goal.invariant-loop-account
invariant-loop-account l = l.balances.items ≡ map (λ t. t.opening) (take l.account l.self.accounts)
