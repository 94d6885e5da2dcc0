use Rattle.std.proofs.Common.{◌≡◌, map, take}
use Rattle.at_orders.proofs.Prelude.{account_of, range_at}
use Rattle.at_orders.proofs.heard.opening_spans.Given as goal

abbrev pub invariant-loop-account : goal.invariant-loop-account
invariant-loop-account l = l.spans.items ≡ map (λ a. range_at (account_of l.ground.book a).opening) (take l.account-index l.ground.named)
