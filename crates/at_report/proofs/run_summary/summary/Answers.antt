use Rattle.std.proofs.Common.{◌≡◌, ◌∙◌, ◌++◌, ℕ, List, ap, sym}
use Rattle.at_report.proofs.Prelude.{NameList, plain_names, BookTerms, last_state, LedgerState, Words, lines_text, audit_lines, done_in, made_lines, read_in}
use Rattle.at_report.proofs.NodeTexts.{lines_text-append}
use Rattle.at_report.proofs.run_summary.summary.Goals as goal

pub returns : goal.returns
returns c =
    let b : BookTerms = c.args.book.now in
    let last : LedgerState = last_state b c.args.lines.now in
    let made : ℕ → List Words = λ n. made_lines c.args.first n c.args.calls (done_in c.args.lines.now) (read_in c.args.lines.now) in
    let text : c.in_ok-out.out.items ≡ lines_text (made b.processes) = c.in_ok-out.ensures ∙ ap (λ (n : ℕ). lines_text (made n)) c.processes.ensures in
    c.in_ok-push_end.ensures
    ∙ (ap (λ (xs : List ℕ). xs ++ lines_text (audit_lines c.in_ok-names.names last)) text
    ∙ (ap (λ (names : NameList). lines_text (made b.processes) ++ lines_text (audit_lines names last)) c.in_ok-names.ensures.plain
    ∙ sym (lines_text-append (made b.processes) (audit_lines (plain_names b) last))))
