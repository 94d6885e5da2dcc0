use Rattle.at_files.proofs.Prelude.{next_and_rest}
use Rattle.at_files.proofs.SpelledWalk.{AreSpelled}
use Rattle.at_files.proofs.spelled.read_into.Given as goal

abbrev pub invariant-loop-line : goal.invariant-loop-line
invariant-loop-line g l =
    AreSpelled (g.F.RecordForm.item l.form) l.last l.over l.first (next_and_rest l.found l.initial.fields l.initial.records) l.items.items l.line
    (next_and_rest l.left l.fields l.records)
