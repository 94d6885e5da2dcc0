use Rattle.std.proofs.Common.{◌≡◌, ◌++◌, take}
use Rattle.std.specs.Int.{w64, to_be_bytes}
use Rattle.at_logs.specs.Prelude.{flat_map}
use Rattle.at_logs.proofs.saving.put_amounts.Given as goal

abbrev pub invariant-loop-amount : goal.invariant-loop-amount
invariant-loop-amount l = l.out.items ≡ l.fn.out.items ++ flat_map (to_be_bytes w64) (take l.amount-index l.amounts)
