use Rattle.std.proofs.Common.{◌≡◌, ◌++◌, map}
use Rattle.at_journal.proofs.Prelude.{range_with_len, previous_key, line_key}
use Rattle.at_journal.proofs.lines.push_calls.Given as goal

abbrev pub invariant-loop-number : goal.invariant-loop-number
invariant-loop-number l = record {
  pushed : l.all.items ≡ l.fn.all.items ++ map (λ i. record { key = line_key l.closing l.p i; process = l.p; number = i }) (range_with_len 0 l.number);
  key : l.key ≡ previous_key l.closing l.p l.number;
}
