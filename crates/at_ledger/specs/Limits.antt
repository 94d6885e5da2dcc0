-- The limits of a book, of a pay-out and of a file of calls, as numbers.
use Rattle.std.specs.Prelude.{ℕ}

-- processes
abbrev pub most_processes : ℕ
most_processes = 16

-- accounts
abbrev pub most_accounts : ℕ
most_accounts = 1024

-- owners of one account
abbrev pub most_owners : ℕ
most_owners = 8

-- successful transfers from single accounts, for each process
abbrev pub most_own_room : ℕ
most_own_room = 4096

-- requests on a shared account, for each owner
abbrev pub most_request_room : ℕ
most_request_room = 1024

-- rounds of all shared accounts together
abbrev pub most_rounds : ℕ
most_rounds = 8192

-- targets of one pay-out
abbrev pub most_targets : ℕ
most_targets = 4

-- calls of one file
abbrev pub most_calls : ℕ
most_calls = 16384
