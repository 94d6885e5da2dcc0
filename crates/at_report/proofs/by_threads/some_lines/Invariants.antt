use Rattle.at_report.proofs.Prelude.{LeadsOn}
use Rattle.at_report.proofs.by_threads.some_lines.Given as goal

abbrev pub invariant-loop-i : goal.invariant-loop-i
invariant-loop-i g l = LeadsOn l.names (g.J.Journal.lines l.journal) l.from l.i l.out.items
