use Rattle.std.proofs.Common.{◌≡◌, ◌+◌, ◌*◌, ◌∷◌, ◌++◌, length, take, ℕ, ◌<◌, ◌^◌, get_or}
use Rattle.at_logs.specs.Prelude.{flat_map}
use Rattle.at_logs.specs.Entry.{target_bytes}
use Rattle.at_logs.proofs.spelling.put_targets.Given as goal

abbrev pub invariant-loop-i : goal.invariant-loop-i
invariant-loop-i l = record {
  spelled : l.out.items ≡ l.fn.out.items ++ (length l.targets ∷ flat_map target_bytes (take l.i l.targets));
  long : length l.out.items ≡ length l.fn.out.items + 1 + 12 * l.i;
  fits : (k : ℕ) → k < l.i → (get_or l.targets k (0, 0)).1 < 2 ^ 64;
}
