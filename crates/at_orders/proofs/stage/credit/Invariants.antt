use Rattle.std.proofs.Common.{◌≡◌, ℕ, List, length}
use Rattle.at_orders.proofs.Prelude.{AreKept}
use Rattle.at_orders.proofs.Crediting.{IsCreditedTo}
use Rattle.at_orders.proofs.stage.credit.Given as goal

abbrev pub invariant-loop-i : goal.invariant-loop-i
invariant-loop-i l = record {
  credited : (all : List ℕ) → AreKept l.ground l.fn.balances all → IsCreditedTo l.ground l.balances all l.targets l.i;
  kept : length l.balances ≡ length l.fn.balances;
}
