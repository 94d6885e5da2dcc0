use Rattle.std.proofs.Common.{ap, subst, arith}
use Rattle.at_board.proofs.Prelude.{common_steps, SeesForms, FitsNext}
use Rattle.at_board.proofs.StepLaws.Forms.{FitsNext-IsSeat, SeesForms-IsSeat}
use Rattle.at_board.proofs.seat.BoardSeat.known.Goals as goal

pub returns-clause-records : goal.returns-clause-records
returns-clause-records c =
    subst SeesForms (ap (λ s. s.knows) c.self.view_is)
    (SeesForms-IsSeat c.self.inside.seat.me.0 c.self.inside.process c.self.inside.published c.self.invariant.1)

pub returns-clause-next : goal.returns-clause-next
returns-clause-next c =
    subst FitsNext (ap (λ s. s.knows) c.self.view_is)
    (FitsNext-IsSeat c.self.inside.seat.me.0 c.self.inside.process c.self.inside.published c.self.invariant.1)

pub returns-clause-seat : goal.returns-clause-seat
returns-clause-seat c = grind (arith, common_steps)
