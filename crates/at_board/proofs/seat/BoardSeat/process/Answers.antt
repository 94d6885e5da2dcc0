use Rattle.std.proofs.Common.{arith}
use Rattle.at_board.proofs.Prelude.{common_steps}
use Rattle.at_board.proofs.seat.BoardSeat.process.Goals as goal

pub returns-clause-seat : goal.returns-clause-seat
returns-clause-seat c = grind (arith, common_steps)
