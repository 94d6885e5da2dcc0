use Rattle.at_board.proofs.Prelude.{sendable, Vec-sync}
use Rattle.at_board.proofs.Sharing.{board_seat_sync}
use Rattle.at_board.proofs.crossing.all_cross.Goals as goal

pub is_sync-requires-2-sync-T : goal.is_sync-requires-2-sync-T
is_sync-requires-2-sync-T c κs = search (sendable, Vec-sync, board_seat_sync) depth 20

pub is_sync-requires-3-sync-T : goal.is_sync-requires-3-sync-T
is_sync-requires-3-sync-T c κs = search (sendable, board_seat_sync) depth 20
