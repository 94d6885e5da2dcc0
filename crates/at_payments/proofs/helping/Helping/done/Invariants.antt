use Rattle.std.proofs.Common.{◌≡◌, ℕ, ◌<◌, length, get_or}
use Rattle.at_payments.proofs.Prelude.{prefix_of, named}
use Rattle.at_payments.proofs.helping.Helping.done.Given as goal

-- the counts of the slots so far are set
abbrev pub invariant-loop-slot : goal.invariant-loop-slot
invariant-loop-slot l = record {
  sized : length l.done ≡ l.slots;
  settled : (k : ℕ) → k < l.slot → get_or l.done k 0 ≡ named l.self.account k (prefix_of l.totals.upto l.seat.knows.seen);
}
