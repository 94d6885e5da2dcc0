use Rattle.std.proofs.Common.{◌∙◌, sym, length, ◌<◌, ◌^◌, arith}
use Rattle.at_report.proofs.ReportLaws.{report_text-injective}
use Rattle.at_report.proofs.by_threads.journal_report.Goals as goal

pub returns-clause-spells : goal.returns-clause-spells
returns-clause-spells g c others few printed printed_others e =
    let few_lines : length (g.J.Journal.lines c.args.journal.now) < 2 ^ 64 = omega arith in
    report_text-injective c.args.book.now c.args.names.now (g.J.Journal.lines c.args.journal.now) others c.accounts-known.ensures.checked c.requires.names few_lines few printed printed_others
    (sym c.in_ok-text.ensures ∙ e)
