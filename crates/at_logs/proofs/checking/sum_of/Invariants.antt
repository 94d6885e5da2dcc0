use Rattle.std.proofs.Common.{◌≡◌, ◌*◌, ◌^◌, ◌≤◌, sum, take}
use Rattle.at_logs.proofs.checking.sum_of.Given as goal

abbrev pub invariant-loop-amount : goal.invariant-loop-amount
invariant-loop-amount l = record {
  sum : l.total ≡ sum (take l.amount-index l.amounts);
  small : l.total ≤ l.amount-index * 2 ^ 64;
}
