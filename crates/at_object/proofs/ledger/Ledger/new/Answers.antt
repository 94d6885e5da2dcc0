use Rattle.std.proofs.Common.{sym, subst}
use Rattle.at_object.proofs.Prelude.{BookTerms, AreNewPasses}
use Rattle.at_object.proofs.ledger.Ledger.new.Goals as goal

pub returns-clause-passes : goal.returns-clause-passes
returns-clause-passes c =
    let id = c.in_ok-board.board.id in
    let passes = c.in_ok-passes.passes.items in
    subst (λ (b : BookTerms). AreNewPasses (record { id = id; book = b }) passes) (sym c.in_ok-board.ensures.book)
    (c.in_ok-passes.ensures id c.in_ok-board.ensures.seats)
