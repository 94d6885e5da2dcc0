use Rattle.std.proofs.Common.{◌≡◌, ◌++◌, map}
use Rattle.at_report.proofs.Prelude.{range_with_len, spaced, validated_word}
use Rattle.at_report.proofs.nodes.push_counts.Given as goal

abbrev pub invariant-loop-log : goal.invariant-loop-log
invariant-loop-log l = l.out.items ≡ l.initial.out.items ++ spaced (map (validated_word l.node) (range_with_len 0 l.log))
