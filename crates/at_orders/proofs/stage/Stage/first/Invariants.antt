use Rattle.std.proofs.Common.{◌≡◌, map, take}
use Rattle.at_orders.proofs.Prelude.{account_of}
use Rattle.at_orders.proofs.stage.Stage.first.Given as goal

abbrev pub invariant-loop-account : goal.invariant-loop-account
invariant-loop-account l = l.balances.items ≡ map (λ a. (account_of l.ground.book a).opening) (take l.account-index l.ground.named)
