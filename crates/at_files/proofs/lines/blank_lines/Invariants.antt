use Rattle.std.proofs.Common.{◌≡◌, drop}
use Rattle.at_files.proofs.Prelude.{line_records}
use Rattle.at_files.proofs.lines.blank_lines.Given as goal

abbrev pub invariant-loop-i : goal.invariant-loop-i
invariant-loop-i l = line_records (drop l.i l.text) ≡ line_records l.text
