use Rattle.std.proofs.Common.{◌≡◌, ◌*◌, ◌≤◌, take, length, sum_by}
use Rattle.at_files.proofs.Prelude.{contents_of}
use Rattle.at_files.proofs.files.count_calls.Given as goal

abbrev pub invariant-loop-file : goal.invariant-loop-file
invariant-loop-file l = record {
  counted : l.calls ≡ sum_by length (take l.file-index (contents_of l.files));
  bound : l.calls ≤ 16384 * l.file-index;
}
