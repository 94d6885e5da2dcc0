use Rattle.std.proofs.Common.{◌∙◌, ap, subst, sym}
use Rattle.at_stepper.proofs.Prelude.{calls_in, AreTimed, IsLinearizable, BookTerms, ClosingTerms, journal_lines, stepper_terms}
use Rattle.at_stepper.proofs.ClosedLaws.{published-closed}
use Rattle.at_stepper.proofs.JournalLaws.{IsJournalOf-closed}
use Rattle.at_stepper.proofs.finishing.finish_closed.Goals as goal

pub returns-in-Ok-clause-journal : goal.returns-in-Ok-clause-journal
returns-in-Ok-clause-journal c =
    let over = c.args.over in
    let book = c.book.ensures in
    let closing = c.closing.ensures.closing in
    let made = c.in-Ok.ensures in
    IsJournalOf-closed (stepper_terms over.run.value) over.closed c.in-Ok.lines.items c.requires.logs c.closing.ensures.coherent c.requires.book_is
    c.requires.answered.receipts_are c.requires.answered.made
    (made.lines ∙ ap journal_lines closing)
    (published-closed (stepper_terms over.run.value) over.closed c.requires.logs c.requires.book_is c.requires.answered.count
    c.requires.answered.published c.requires.answered.between)
    (λ times timed.
    subst (λ (b : BookTerms). IsLinearizable b (calls_in over.closed.closing) times c.in-Ok.lines.items) book
    (subst (λ (x : ClosingTerms). IsLinearizable c.book.result.now (calls_in x) times c.in-Ok.lines.items) closing
    (made.linearizable times (subst (λ (x : ClosingTerms). AreTimed x times) (sym closing) timed))))
