use Rattle.std.proofs.Common.{◌≡◌, ◌++◌, take}
use Rattle.at_logs.specs.Prelude.{flat_map}
use Rattle.at_logs.specs.Snapshot.{HasTailBytes, tail_bytes}
use Rattle.at_logs.proofs.SavingLaws.{FitFirst}
use Rattle.at_logs.proofs.saving.put_tails.Given as goal

abbrev pub invariant-loop-tail : goal.invariant-loop-tail
invariant-loop-tail l = record {
  spelled : l.out.items ≡ l.fn.out.items ++ flat_map tail_bytes (take l.tail-index l.tails);
  fits : FitFirst HasTailBytes l.tails l.tail-index;
}
