use Rattle.std.proofs.Common.{◌≡◌, ◌++◌, length, take}
use Rattle.std.specs.Int.{w64, to_be_bytes}
use Rattle.at_logs.specs.Prelude.{flat_map}
use Rattle.at_logs.specs.Snapshot.{HasCreditBytes, credit_bytes}
use Rattle.at_logs.proofs.SavingLaws.{FitFirst}
use Rattle.at_logs.proofs.saving.put_credits.Given as goal

abbrev pub invariant-loop-credit : goal.invariant-loop-credit
invariant-loop-credit l = record {
  spelled : l.out.items ≡ l.fn.out.items ++ (to_be_bytes w64 (length l.credits) ++ flat_map credit_bytes (take l.credit-index l.credits));
  fits : FitFirst HasCreditBytes l.credits l.credit-index;
}
