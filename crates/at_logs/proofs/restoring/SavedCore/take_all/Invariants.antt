use Rattle.std.proofs.Common.{◌≡◌, ℕ, ◌+◌, ◌<◌, ◌≤◌, Some, get_or, length, sum_by}
use Rattle.at_logs.proofs.Prelude.{account_on_logs, backlog_of, credit_to}
use Rattle.at_logs.proofs.restoring.SavedCore.take_all.Given as goal

abbrev pub invariant-loop-p : goal.invariant-loop-p
invariant-loop-p l = record {
  taken : (q a : ℕ) → q < l.p → a < length l.self.book.accounts → (account_on_logs l.self.book a).log ≡ Some q
      → get_or l.left a 0 + sum_by (credit_to a) (backlog_of l.self.backlogs q).credits ≡ get_or l.self.balances a 0;
  untaken : (q a : ℕ) → l.p ≤ q → a < length l.self.book.accounts → (account_on_logs l.self.book a).log ≡ Some q → get_or l.left a 0 ≡ get_or l.self.balances a 0;
}
