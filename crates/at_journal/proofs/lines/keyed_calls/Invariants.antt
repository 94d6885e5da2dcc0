use Rattle.std.proofs.Common.{◌≡◌, [], get_or}
use Rattle.at_journal.proofs.Prelude.{flat_map, range_with_len, all_keys, keyed_of}
use Rattle.at_journal.proofs.lines.keyed_calls.Given as goal

abbrev pub invariant-loop-p : goal.invariant-loop-p
invariant-loop-p l = l.all.items ≡ flat_map (λ p. keyed_of p (get_or (all_keys l.closing) p [])) (range_with_len 0 l.p)
