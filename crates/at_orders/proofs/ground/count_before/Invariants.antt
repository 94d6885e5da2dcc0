use Rattle.std.proofs.Common.{◌≡◌, ◌<◌, ℕ, Some, length, get_or, take}
use Rattle.std.specs.Prelude.{slice_get}
use Rattle.at_orders.proofs.Prelude.{first_account, Call, payments_from}
use Rattle.at_orders.proofs.ground.count_before.Given as goal

abbrev pub invariant-loop-call : goal.invariant-loop-call
invariant-loop-call l = record {
  accounts : length l.counts.items ≡ l.accounts;
  counts : (a : ℕ) → a < l.accounts → get_or l.counts.items a 0 ≡ payments_from a (take l.call-index l.file);
  calls : length l.before.items ≡ l.call-index;
  before : (i : ℕ) (call : Call) → i < l.call-index → slice_get l.file i ≡ Some call
      → get_or l.before.items i 0 ≡ payments_from (first_account call) (take i l.file);
}
