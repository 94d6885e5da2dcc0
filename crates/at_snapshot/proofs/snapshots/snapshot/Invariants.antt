use Rattle.std.proofs.Common.{◌≡◌, ℕ}
use Rattle.at_snapshot.proofs.Prelude.{raised, IsOf, IsSnapping, turns_left}
use Rattle.at_snapshot.proofs.snapshots.snapshot.Given as goal

-- so many turns answered Again, in so many steps
abbrev pub invariant-loop-counts : goal.invariant-loop-counts
invariant-loop-counts l =
    ((turns made : ℕ) × IsSnapping l.board.book l.fn.seat.knows l.scan l.seat.knows 0 made turns × (l.seat.steps ≡ raised l.initial.seat.steps made))
    × IsOf l.seat l.board
    × (l.seat.exchanges ≡ l.initial.seat.exchanges)

abbrev pub decreases-loop-counts : goal.decreases-loop-counts
decreases-loop-counts l = turns_left l.board.book.processes l.scan.collects
