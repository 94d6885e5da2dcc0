use Rattle.std.proofs.Common.{◌≡◌, List, ◌++◌}
use Rattle.at_board.proofs.Prelude.{Gathers, SeatTerms}
use Rattle.at_board.proofs.close.gather.Given as goal

abbrev pub invariant-loop-other : goal.invariant-loop-other
invariant-loop-other l =
    (goal.iterator-loop-other).can_next l.other-iterator ×
    (goal.iterator-loop-other).is_finite l.other-iterator
    × (l.all.table_id ≡ l.fn.shared.table_id)
    × ((done : List SeatTerms) × (l.fn.seats.items ≡ done ++ l.other-iterator.rest.items) × Gathers done l.all.me.0)
