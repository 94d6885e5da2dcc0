use Rattle.std.proofs.Common.{arith}
use Rattle.at_board.proofs.Prelude.{common_steps}
use Rattle.at_board.proofs.board.Board.announced.Goals as goal

pub announced-requires : goal.announced-requires
announced-requires c = grind (arith, common_steps)
