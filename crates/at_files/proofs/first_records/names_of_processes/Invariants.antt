use Rattle.std.proofs.Common.{◌≡◌, [], drop}
use Rattle.at_files.proofs.Prelude.{with_processes}
use Rattle.at_files.proofs.first_records.names_of_processes.Given as goal

abbrev pub invariant-loop-i : goal.invariant-loop-i
invariant-loop-i l = with_processes [] (drop 1 l.fields) ≡ with_processes l.names (drop l.i l.fields)
