use Rattle.std.proofs.Common.{◌≡◌, ℕ, ◌<◌, Some, get_or}
use Rattle.at_logs.proofs.Prelude.{account_on_logs}
use Rattle.at_logs.proofs.restoring.SavedCore.is_settled.Given as goal

abbrev pub invariant-loop-account : goal.invariant-loop-account
invariant-loop-account l =
    (p a : ℕ) → p < l.self.book.logs → a < l.account → (account_on_logs l.self.book a).log ≡ Some p → get_or l.left a 0 ≡ get_or l.self.settled a 0
