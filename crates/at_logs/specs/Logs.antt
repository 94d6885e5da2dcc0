-- The logs of a book: one for each process, and one more for each shared account, in book order.
use Rattle.std.specs.Prelude.{ℕ, ◌+◌, List, length, map, take, sum_by, Option, Some, if◌then◌else◌}
use Rattle.at_logs.specs.Prelude.{range_with_len, LogTerms, single_log, LogAccount, AccountTerms, is_shared, BookTerms, account_of}

-- how many of these accounts are shared
abbrev pub shared_among : List AccountTerms → ℕ
shared_among accounts = sum_by (λ t. if is_shared t then 1 else 0) accounts

-- the one log that debits an account: of a shared account its own, of a single one that of its owner. A shared account's stands after those of
-- the processes, in book order
abbrev pub log_in : BookTerms → ℕ → Option ℕ
log_in b account =
    if is_shared (account_of b account)
    then Some (b.processes + shared_among (take account b.accounts))
    else single_log (account_of b account).owners

abbrev pub log_account : BookTerms → ℕ → LogAccount
log_account b account = record { opening = (account_of b account).opening; log = log_in b account }

-- what a node needs of the book
abbrev pub logs_of : BookTerms → LogTerms
logs_of b = record {
  logs = b.processes + shared_among b.accounts;
  accounts = map (log_account b) (range_with_len 0 (length b.accounts));
}
