-- What a node needs of a book: how many logs there are, and of each account what it opens with and the one log that debits it, if any.
use Rattle.std.specs.Prelude.{ℕ, ◌^◌, ◌<◌, ◌≤◌, List, [], ◌∷◌, length, map, sum_by, slice_index_or, Option, None, Some}
use Rattle.at_broadcast.specs.Prelude.{AccountTerms, BookTerms}
use Rattle.at_broadcast.specs.declared.log_book.LogAccount.{LogAccount}

-- logs
abbrev pub most_logs : ℕ
most_logs = 64

-- what a node needs of a book: how many logs there are, and of each account its opening and the one log that debits it, if any
pub record LogTerms : Type 0 where
  pub logs : ℕ
  pub accounts : List LogAccount

-- an account that no book holds: it has nothing, and no log debits it
abbrev pub no_account_on_logs : LogAccount
no_account_on_logs = record { opening = 0; log = None }

-- the account of a number
abbrev pub account_on_logs : LogTerms → ℕ → LogAccount
account_on_logs b account = slice_index_or b.accounts account no_account_on_logs

-- the sum of the openings
abbrev pub total_on_logs : LogTerms → ℕ
total_on_logs b = sum_by (λ t. t.opening) b.accounts

-- what holds of every such book
pub record IsLogBook (b : LogTerms) : Type 0 where
  pub some_log : 1 ≤ b.logs
  pub few_logs : b.logs ≤ most_logs
  pub few_accounts : length b.accounts < 2 ^ 32
  pub total : total_on_logs b < 2 ^ 64

-- the one owner, if there is one alone
abbrev pub single_log : List ℕ → Option ℕ
single_log [] = None
single_log (owner ∷ []) = Some owner
single_log (owner ∷ other ∷ owners) = None

-- an account whose one owner debits it by its own log
abbrev pub single_of : AccountTerms → LogAccount
single_of t = record { opening = t.opening; log = single_log t.owners }

-- a log for each process of a book, for the accounts that the process alone owns
abbrev pub singles_of : BookTerms → LogTerms
singles_of b = record { logs = b.processes; accounts = map single_of b.accounts }
