use Rattle.std.proofs.Common.{◌≡◌, ◌+◌, ◌≤◌, drop}
use Rattle.at_files.proofs.Prelude.{line_from}
use Rattle.at_files.proofs.location.line_behind.Given as goal

abbrev pub invariant-loop-byte : goal.invariant-loop-byte
invariant-loop-byte l = record {
  same : line_from l.records l.line l.last (drop l.byte-index l.bytes) ≡ line_from l.fn.records 1 10 l.bytes;
  few : l.line ≤ l.byte-index + 1;
}
