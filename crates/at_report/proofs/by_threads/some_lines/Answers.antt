use Rattle.std.proofs.Common.{◌<◌, length, arith}
use Rattle.at_report.proofs.Prelude.{line_shown}
use Rattle.at_report.proofs.PieceLaws.{LeadsOn-more}
use Rattle.at_report.proofs.by_threads.some_lines.Goals as goal

pub loop-i-preserved : goal.loop-i-preserved
loop-i-preserved g c =
    let lines = g.J.Journal.lines c.args.journal.now in
    let within : c.loop-i.i < length lines = omega arith in
    rw c.in_ok-push_line_at.ensures.text
    (LeadsOn-more c.args.names.now lines c.args.from c.loop-i.i c.loop-i.out.items (line_shown c.line.result) within c.line.ensures c.loop-i.invariant)
