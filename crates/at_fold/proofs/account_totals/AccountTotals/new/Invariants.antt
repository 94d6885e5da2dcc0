use Rattle.std.proofs.Common.{◌≡◌, replicate}
use Rattle.at_fold.proofs.Prelude.{starting_slot}
use Rattle.at_fold.proofs.account_totals.AccountTotals.new.Given as goal

abbrev pub invariant-loop-slot : goal.invariant-loop-slot
invariant-loop-slot l = l.slots.items ≡ replicate l._slot (starting_slot l.book.request_room)
