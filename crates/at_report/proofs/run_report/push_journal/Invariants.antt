use Rattle.std.proofs.Common.{◌≡◌, ◌++◌, take, map}
use Rattle.at_report.proofs.Prelude.{lines_text, journal_words}
use Rattle.at_report.proofs.run_report.push_journal.Given as goal

abbrev pub invariant-loop-i : goal.invariant-loop-i
invariant-loop-i g l = l.out.items ≡ l.initial.out.items ++ lines_text (map (journal_words l.names) (take l.i (g.J.Journal.lines l.journal)))
