use Rattle.std.proofs.Common.{◌∙◌, arith}
use Rattle.at_files.proofs.Faults.{Err-same}
use Rattle.at_files.proofs.ProcessLaws.{with_processes-bad, with_processes-end, with_processes-more}
use Rattle.at_files.proofs.first_records.names_of_processes.Goals as goal

pub returns-in-Err-clause-bad : goal.returns-in-Err-clause-bad
returns-in-Err-clause-bad c = λ b same.
    with_processes-bad _ c.loop-i.names _ c.loop-i.i 2 b (omega (arith, c.len-i-end.ensures)) (rw c.field_of.ensures at (c.add_process.ensures.bad b (c.in-Err.is ∙ Err-same _ _ same))) c.loop-i.invariant

pub loop-i-preserved : goal.loop-i-preserved
loop-i-preserved c = with_processes-more _ c.loop-i.names _ _ c.loop-i.i (omega (arith, c.len-i-end.ensures)) (rw c.field_of.ensures at c.in_default.ensures.ok) c.loop-i.invariant

pub returns-clause-ok : goal.returns-clause-ok
returns-clause-ok c = with_processes-end _ c.loop-i.names _ c.loop-i.i (omega (arith, c.len-i-end.ensures)) c.loop-i.invariant
