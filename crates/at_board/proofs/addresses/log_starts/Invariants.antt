use Rattle.std.proofs.Common.{◌≡◌, ℕ, ◌<◌, length, get_or}
use Rattle.at_board.proofs.Prelude.{index_of, record_word}
use Rattle.at_board.proofs.addresses.log_starts.Given as goal

-- so many starts stand, and the next log begins here
abbrev pub invariant-loop-p : goal.invariant-loop-p
invariant-loop-p l =
    (length l.starts.items ≡ l.p)
    × ((q : ℕ) → q < l.p → get_or l.starts.items q 0 ≡ index_of l.book (record_word q 0 0))
    × (l.next ≡ index_of l.book (record_word l.p 0 0))
