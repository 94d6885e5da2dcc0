use Rattle.std.proofs.Common.{arith}
use Rattle.at_board.proofs.Prelude.{common_steps}
use Rattle.at_board.proofs.board.Board.own_slot.Goals as goal

pub slot_of-requires : goal.slot_of-requires
slot_of-requires c = grind (arith, common_steps)
