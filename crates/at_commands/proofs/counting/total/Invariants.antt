use Rattle.std.proofs.Common.{◌≡◌, ◌*◌, ◌≤◌, take, sum, sum_by}
use Rattle.at_commands.proofs.Prelude.{contents_of}
use Rattle.at_commands.proofs.counting.total.Given as goal

abbrev pub invariant-loop-file : goal.invariant-loop-file
invariant-loop-file l = record {
  summed : l.calls ≡ sum_by sum (take l.file-index (contents_of l.files));
  bound : l.calls ≤ 16384 * l.file-index;
}
