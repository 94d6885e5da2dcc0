use Rattle.std.proofs.Common.{◌≡◌, ◌+◌, ◌≤◌, map, take, sum_by}
use Rattle.at_logs.proofs.Prelude.{range_with_len, most_processes, log_account, shared_among}
use Rattle.at_logs.proofs.logs.logs_of.Given as goal

abbrev pub invariant-loop-account : goal.invariant-loop-account
invariant-loop-account l = record {
  counted : l.logs ≡ l.book.processes + shared_among (take l.account l.book.accounts);
  few : l.logs ≤ most_processes + l.account;
  accounts : l.accounts.items ≡ map (log_account l.book) (range_with_len 0 l.account);
  total : sum_by (λ t. t.opening) l.accounts.items ≡ sum_by (λ t. t.opening) (take l.account l.book.accounts);
}
