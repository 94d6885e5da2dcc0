use Rattle.std.proofs.Common.{◌≡◌, ◌^◌, ◌≤◌, ◌*◌, sum, take}
use Rattle.at_journal.proofs.Prelude.{log_lengths}
use Rattle.at_journal.proofs.order.total_of.Given as goal

abbrev pub invariant-loop-p : goal.invariant-loop-p
invariant-loop-p l = (l.total ≡ sum (take l.p (log_lengths l.closing))) × (l.total ≤ l.p * 2 ^ 32)
