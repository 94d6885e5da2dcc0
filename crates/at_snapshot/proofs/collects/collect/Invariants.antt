use Rattle.std.proofs.Common.{◌≡◌}
use Rattle.at_snapshot.proofs.Prelude.{raised, IsOf, IsCollecting}
use Rattle.at_snapshot.proofs.collects.collect.Given as goal

-- so many lengths are loaded
abbrev pub invariant-loop-p : goal.invariant-loop-p
invariant-loop-p l =
    IsCollecting l.board.book l.fn.seat.knows l.seat.knows l.counts l.p
    × IsOf l.seat l.board
    × (l.seat.steps ≡ raised l.initial.seat.steps l.p)
    × (l.seat.exchanges ≡ l.initial.seat.exchanges)
