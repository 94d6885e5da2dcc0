use Rattle.std.proofs.Common.{◌≡◌, ◌^◌, ◌≤◌, ◌*◌, take, length, sum}
use Rattle.at_base.proofs.counts.Counts.total.Given as goal

abbrev pub invariant-loop-p : goal.invariant-loop-p
invariant-loop-p l = (l.total ≡ sum (take l.p l.self)) × (l.total ≤ l.p * 2 ^ 32) × (length l.self ≤ 16)
