use Rattle.std.proofs.Common.{◌≡◌, ◌≤◌, ◌-◌, length}
use Rattle.at_files.proofs.NumberFields.{AreReadTo}
use Rattle.at_files.proofs.messages.numbers_from.Given as goal

-- so many numbers are read
abbrev pub invariant-loop-i : goal.invariant-loop-i
invariant-loop-i l = record {
  read : AreReadTo l.fields l.first l.i l.numbers.items;
  from : l.first ≤ l.i;
  count : length l.numbers.items ≡ l.i - l.first;
}
