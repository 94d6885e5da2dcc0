use Rattle.std.proofs.Common.{◌≡◌, ◌*◌, ◌≤◌, take}
use Rattle.at_board.proofs.Prelude.{sum_by, slots_of}
use Rattle.at_board.proofs.addresses.slot_count.Given as goal

abbrev pub invariant-loop-account : goal.invariant-loop-account
invariant-loop-account l = (l.slots ≡ sum_by slots_of (take l.account l.book.accounts)) × (l.slots ≤ 8 * l.account)
