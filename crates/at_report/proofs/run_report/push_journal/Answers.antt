use Rattle.at_report.proofs.Prelude.{common_steps, journal_words, line_shown}
use Rattle.std.proofs.Common.{◌<◌, length, arith}
use Rattle.at_report.proofs.LineLaws.{lines_text-take_more}
use Rattle.at_report.proofs.run_report.push_journal.Goals as goal

pub loop-i-preserved : goal.loop-i-preserved
loop-i-preserved g c =
    let lines = g.J.Journal.lines c.args.journal.now in
    let within : c.loop-i.i < length lines = omega arith in
    rw (c.in_ok-push_line_at.ensures.text, c.loop-i.invariant)
    (lines_text-take_more (journal_words c.args.names.now) c.push_heading.new.out.items lines c.loop-i.i (line_shown c.line.result) within c.line.ensures)

pub returns : goal.returns
returns g c = grind (arith, common_steps)

pub push_line_at-requires : goal.push_line_at-requires
push_line_at-requires g c = grind (arith, common_steps)
