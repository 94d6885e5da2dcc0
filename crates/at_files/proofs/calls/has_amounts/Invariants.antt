use Rattle.std.proofs.Common.{◌≡◌, ◌+◌, ◌*◌, drop}
use Rattle.at_files.proofs.Prelude.{has_amounts}
use Rattle.at_files.proofs.calls.has_amounts.Given as goal

abbrev pub invariant-loop-i : goal.invariant-loop-i
invariant-loop-i l = has_amounts (drop 2 l.fields) ≡ has_amounts (drop (2 * l.i + 2) l.fields)
