use Rattle.std.proofs.Common.{◌≡◌, ℕ, ◌*◌, ◌<◌, ◌≤◌, length, get_or, take}
use Rattle.at_board.proofs.Prelude.{sum_by, slots_of}
use Rattle.at_board.proofs.addresses.slots_before.Given as goal

-- so many counts stand, and these are the slots so far
abbrev pub invariant-loop-account : goal.invariant-loop-account
invariant-loop-account l =
    (length l.before.items ≡ l.account)
    × ((a : ℕ) → a < l.account → get_or l.before.items a 0 ≡ sum_by slots_of (take a l.book.accounts))
    × (l.next ≡ sum_by slots_of (take l.account l.book.accounts))
    × (l.next ≤ 8 * l.account)
