use Rattle.std.proofs.Common.{◌≡◌, ◌++◌, length, take}
use Rattle.std.specs.Int.{w64, to_be_bytes}
use Rattle.at_logs.specs.Prelude.{flat_map}
use Rattle.at_logs.specs.Snapshot.{HasKeptMessageBytes, kept_message_bytes}
use Rattle.at_logs.proofs.SavingLaws.{FitFirst}
use Rattle.at_logs.proofs.saving.put_messages.Given as goal

abbrev pub invariant-loop-i : goal.invariant-loop-i
invariant-loop-i l = record {
  spelled : l.out.items ≡ l.fn.out.items ++ (to_be_bytes w64 (length l.messages.items) ++ flat_map kept_message_bytes (take l.i l.messages.items));
  fits : FitFirst HasKeptMessageBytes l.messages.items l.i;
}
