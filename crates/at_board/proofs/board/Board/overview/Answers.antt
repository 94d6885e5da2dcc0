use Rattle.std.proofs.Common.{sym, ap, subst, ◌∙◌, arith}
use Rattle.at_board.proofs.Prelude.{common_steps, IsOverview}
use Rattle.at_board.proofs.StepLaws.Note.{word_count-some}
use Rattle.at_board.proofs.StepLaws.Overview.{IsOverview-seen_alone, sees_alone}
use Rattle.at_board.proofs.board.Board.overview.Goals as goal

pub split_seat-requires : goal.split_seat-requires
split_seat-requires c = (
  ap (λ s. s.board) c.seat.view_is ∙ (c.requires.board.id ∙ sym (ap (λ t. t.id) c.self.view_is)),
  omega (arith, c.self.invariant.1, word_count-some c.self.inside.layout.book c.self.invariant.2),
  sees_alone c.self.inside.table.shared.key.value c.seat.inside.seat.id c.seat.inside.seat.me.0,
)

pub invariant_of-result : goal.invariant_of-result
invariant_of-result c = (
  ap (λ m. m.1) c.split_seat.ensures.4,
  subst IsOverview (sym (ap (λ m. m.0) c.split_seat.ensures.4))
      (IsOverview-seen_alone c.seat.inside.seat.me.0 c.seat.invariant.1.book c.seat.invariant.1.history),
)

pub invariant_of-seat : goal.invariant_of-seat
invariant_of-seat c = grind (arith, common_steps)

pub returns-clause-seen : goal.returns-clause-seen
returns-clause-seen c = grind (arith, common_steps)

pub returns-clause-same : goal.returns-clause-same
returns-clause-same c = grind (arith, common_steps)
