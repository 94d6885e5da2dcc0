use Rattle.std.proofs.Common.{◌≡◌, ◌+◌, ◌*◌, ◌++◌, length, take, ℕ, ◌<◌, ◌^◌, get_or}
use Rattle.std.specs.Int.{w32, to_be_bytes}
use Rattle.at_logs.specs.Prelude.{flat_map}
use Rattle.at_logs.proofs.spelling.put_counts.Given as goal

abbrev pub invariant-loop-log : goal.invariant-loop-log
invariant-loop-log l = record {
  spelled : l.out.items ≡ l.fn.out.items ++ flat_map (to_be_bytes w32) (take l.log l.counts);
  long : length l.out.items ≡ length l.fn.out.items + 4 * l.log;
  fits : (k : ℕ) → k < l.log → get_or l.counts k 0 < 2 ^ 32;
}
