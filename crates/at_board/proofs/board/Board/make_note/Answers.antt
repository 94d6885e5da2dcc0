use Rattle.std.proofs.Common.{sym, ap, subst, ◌∙◌, arith}
use Rattle.at_board.proofs.Prelude.{common_steps, IsNote}
use Rattle.at_board.proofs.StepLaws.Note.{IsNote-noted, notes, word_count-some}
use Rattle.at_board.proofs.board.Board.make_note.Goals as goal

pub split_seat-requires : goal.split_seat-requires
split_seat-requires c = (
  ap (λ s. s.board) c.seat.view_is ∙ (c.requires.board.id ∙ sym (ap (λ t. t.id) c.self.view_is)),
  omega (arith, c.self.invariant.1, word_count-some c.self.inside.layout.book c.self.invariant.2),
  notes c.self.inside.table.shared.key.value c.seat.inside.seat.id c.seat.inside.seat.me.0,
)

pub invariant_of-result : goal.invariant_of-result
invariant_of-result c = (
  ap (λ m. m.1) c.split_seat.ensures.4,
  subst IsNote (sym (ap (λ m. m.0) c.split_seat.ensures.4))
      (IsNote-noted c.seat.inside.seat.me.0 c.seat.inside.process c.seat.inside.published c.seat.invariant.1),
)

pub invariant_of-seat : goal.invariant_of-seat
invariant_of-seat c = grind (arith, common_steps)

pub returns-clause-noted : goal.returns-clause-noted
returns-clause-noted c = grind (arith, common_steps)

pub returns-clause-same : goal.returns-clause-same
returns-clause-same c = grind (arith, common_steps)
