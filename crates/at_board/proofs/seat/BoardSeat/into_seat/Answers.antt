use Rattle.std.proofs.Common.{arith}
use Rattle.at_board.proofs.Prelude.{common_steps}
use Rattle.at_board.proofs.seat.BoardSeat.into_seat.Goals as goal

pub returns-clause-one_part : goal.returns-clause-one_part
returns-clause-one_part c = grind (arith, common_steps)

pub returns-clause-knows : goal.returns-clause-knows
returns-clause-knows c = grind (arith, common_steps)
