-- Seats of a table, which threads may share.
use Rattle.at_board.proofs.Prelude.{unit, IsSend, IsSync, part_keyless, sendable, RattleType, seat_keyless, the_row}
use Rattle.at_board.specs.contracts.knowledge.Knowledge as view

-- a seat may be moved
pub table_seat_send : (S V : RattleType) → IsSend S → IsSend (the_row S V)
table_seat_send S V s = record {
  owned = λ d vs. ((λ vss. (tt, ((λ uss. (tt, tt)), tt))), seat_keyless S s V.coded.code d.table_id d.id d.me);
  leaving = λ k f vs. tt;
}

-- and shared: a thread that shares it has no more of it than one to which it was moved
seat_sync : (S V : RattleType) → IsSend S → IsSync (the_row S V)
seat_sync S V s = record { shared = λ d b o ν. λ q. part_keyless (the_row S V) (table_seat_send S V s) q d b o }

-- the seats of a board's table
pub board_seat_sync : IsSync (the_row unit view.the_row)
board_seat_sync = seat_sync unit view.the_row (search sendable depth 20)
