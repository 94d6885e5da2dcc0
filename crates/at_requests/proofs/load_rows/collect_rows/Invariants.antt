use Rattle.std.proofs.Common.{◌≡◌, ℕ}
use Rattle.at_requests.proofs.Prelude.{raised, IsCollectingRows}
use Rattle.at_requests.proofs.load_rows.collect_rows.Given as goal

-- the rows of so many slots are loaded, in so many steps
abbrev pub invariant-loop-slot : goal.invariant-loop-slot
invariant-loop-slot l = record {
  board : l.seat.board ≡ l.fn.seat.board;
  made : ℕ;
  collecting : IsCollectingRows l.fn.seat.knows l.seat.knows l.account l.own l.asked l.slot made;
  steps : l.seat.steps ≡ raised l.fn.seat.steps made;
  exchanges : l.seat.exchanges ≡ l.fn.seat.exchanges;
}
