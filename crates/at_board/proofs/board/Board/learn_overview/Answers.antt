use Rattle.std.proofs.Common.{sym, ap, ◌∙◌, arith}
use Rattle.at_board.proofs.StepLaws.Note.{word_count-some}
use Rattle.at_board.proofs.StepLaws.Overview.{sees_alone}
use Rattle.at_board.proofs.board.Board.learn_overview.Goals as goal

pub split_seat-requires : goal.split_seat-requires
split_seat-requires c = (
  ap (λ o. o.board) c.overview.view_is ∙ (c.requires.overview.id ∙ sym (ap (λ t. t.id) c.self.view_is)),
  omega (arith, c.self.invariant.1, word_count-some c.self.inside.layout.book c.self.invariant.2),
  sees_alone c.self.inside.table.shared.key.value c.overview.inside.seat.id c.overview.inside.seat.me.0,
)
