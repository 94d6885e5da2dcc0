use Rattle.std.proofs.Common.{◌≡◌}
use Rattle.at_files.proofs.Prelude.{decimals_below}
use Rattle.at_files.proofs.names.plain_names.Given as goal

abbrev pub invariant-loop-n : goal.invariant-loop-n
invariant-loop-n l = l.names ≡ decimals_below l.n
