use Rattle.at_files.proofs.TargetLaws.{AreTaken}
use Rattle.at_files.proofs.calls.targets_spelled.Given as goal

abbrev pub invariant-loop-i : goal.invariant-loop-i
invariant-loop-i l = AreTaken l.names.accounts l.fields l.targets l.i
