use Rattle.std.proofs.Common.{length, subst, sym, List, All}
use Rattle.at_c.proofs.Prelude.{BookTerms, IsLineOn, Whole, Line, calls_in, ClosingTerms}
use Rattle.at_c.proofs.Lines.{IsLineOn-closed}
use Rattle.at_c.proofs.ended.Ended.text.Goals as goal

pub report-requires-clause-lines : goal.report-requires-clause-lines
report-requires-clause-lines c =
    let closed = c.self.inside.closed in
    let lines = c.in_ok-lines.lines.items in
    let whole = subst (λ (closing : ClosingTerms). Whole (calls_in closing) lines) c.closing.ensures.closing c.in_ok-lines.ensures.whole in
    let known = IsLineOn-closed closed.book closed.closing lines c.closing.ensures.coherent whole c.self.invariant.are in
    subst (λ (b : BookTerms). All (IsLineOn b.processes (length b.accounts)) c.as_slice.result.now) (sym c.book-book.ensures)
    (subst (λ (list : List Line). All (IsLineOn closed.book.processes (length closed.book.accounts)) list) (sym c.as_slice.ensures.value) known)
