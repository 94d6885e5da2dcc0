use Rattle.std.proofs.Common.{◌≡◌, ℕ, ◌<◌, [], length, get_or}
use Rattle.at_board.proofs.EndLaws.Deals.{rest_view}
use Rattle.at_board.proofs.Prelude.{starting_seat, SeatTerms}
use Rattle.at_board.proofs.deal.deal.Given as goal

-- so many seats are dealt, and the rest stands for the others
abbrev pub invariant-loop-process : goal.invariant-loop-process
invariant-loop-process l =
    (length l.seats.items ≡ l.process)
    × ((p : ℕ) (d : SeatTerms) → p < l.process → get_or l.seats.items p d ≡ record { board = l.shared.table_id; knows = starting_seat l.book p; steps = 0; exchanges = 0 })
    × (l.rest.table_id ≡ l.shared.table_id)
    × (l.rest.me ≡ (rest_view l.book l.process, []))
