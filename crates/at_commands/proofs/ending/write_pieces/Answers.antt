use Rattle.std.proofs.Common.{◌∙◌, ap, inr, refl, sym}
use Rattle.at_commands.proofs.Laws.Commands.{done-write_fault}
use Rattle.at_commands.proofs.PieceLaws.{TakesPrefix-pieces}
use Rattle.at_commands.proofs.ending.write_pieces.Goals as goal

pub returns-in_default-clause-wrote : goal.returns-in_default-clause-wrote
returns-in_default-clause-wrote g c =
    let before = c.loop-piece.invariant in
    let put = c.in_default.ensures in
    record {
      done = λ is. absurd (done-write_fault (sym is));
      kept = λ is. absurd (done-write_fault (sym is));
      fault = λ is. rw before.kept at put.fault;
      prefix = λ is told.
          TakesPrefix-pieces c.args.pieces.now c.loop-piece.piece-index c.piece-item.result c.as_slice.result.now _ _ _ c.loop-piece-test.true
          (c.as_slice.ensures.value ∙ ap (λ piece. piece.items) c.piece-item.is) (before.taken told) (put.prefix (before.as_told ∙ told));
      answers = inr refl;
    }
