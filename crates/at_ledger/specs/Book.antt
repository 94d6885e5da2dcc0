-- A checked book: its processes, its accounts in order, and the room that each process has.
use Rattle.std.specs.Prelude.{◌≡◌, ℕ, ◌+◌, ◌^◌, ◌<◌, ◌≤◌, Bool, List, length, map, All, sum_by, slice_index_or, Some, if◌then◌else◌}
use Rattle.at_ledger.specs.Prelude.{list_any, zip}
use Rattle.at_ledger.specs.Account.{AccountTerms, no_account, is_owner_in, is_single, rounds_room, rounds_room_of, slot_in, slots_of, IsRisingFrom}
use Rattle.at_ledger.specs.Limits.{most_accounts, most_own_room, most_owners, most_processes, most_request_room, most_rounds}

-- own_room counts the successful transfers from single accounts that each process has,
-- request_room the requests of each owner of each shared account
pub record BookTerms : Type 0 where
  pub processes : ℕ
  pub own_room : ℕ
  pub request_room : ℕ
  pub accounts : List AccountTerms

-- the account of a number
abbrev pub account_of : BookTerms → ℕ → AccountTerms
account_of b account = slice_index_or b.accounts account no_account

-- whether the process may debit the account
abbrev pub is_owner : BookTerms → ℕ → ℕ → Bool
is_owner b process account = is_owner_in (account_of b account) process

-- the process shares the account, and has this slot there
pub record HasSlot (b : BookTerms) (process a slot : ℕ) : Type 0 where
  pub account_in : a < length b.accounts
  pub within : slot < slots_of (account_of b a)
  pub owner : slot_in (account_of b a) process ≡ Some slot

-- the sum of the openings
abbrev pub total_of : BookTerms → ℕ
total_of b = sum_by (λ t. t.opening) b.accounts

-- some account has one owner
abbrev pub has_single : BookTerms → Bool
has_single b = list_any is_single b.accounts

-- the book with the own room that can be used: its own where some account has one owner, and else 1, the least that a book has
abbrev pub with_usable_room : BookTerms → BookTerms
with_usable_room b = record b { own_room = if has_single b then b.own_room else 1 }

-- the book with these openings, in the order of its accounts
abbrev pub with_openings : BookTerms → List ℕ → BookTerms
with_openings b openings = record b { accounts = map (λ p. record p.0 { opening = p.1 }) (zip b.accounts openings) }

-- the rounds of all accounts together: for each shared account the number of its owners times the request room, summed
abbrev pub rounds_of : BookTerms → ℕ
rounds_of b = sum_by (rounds_room b.request_room) b.accounts

-- how many records the log of a process has room for: its own transfers, and each round of an account that it shares
abbrev pub log_room_of : BookTerms → ℕ → ℕ
log_room_of b process = b.own_room + sum_by (rounds_room_of b.request_room process) b.accounts

-- the owners of an account are processes, at most eight, each above the one before it
pub record IsAccount (processes : ℕ) (t : AccountTerms) : Type 0 where
  pub known : All (λ owner. owner < processes) t.owners
  pub rising : IsRisingFrom 0 t.owners
  pub few : length t.owners ≤ most_owners

-- what holds of a book to which accounts are still added
pub record IsBegun (b : BookTerms) : Type 0 where
  pub some_process : 1 ≤ b.processes
  pub few_processes : b.processes ≤ most_processes
  pub some_own_room : 1 ≤ b.own_room
  pub own_room : b.own_room ≤ most_own_room
  pub some_request_room : 1 ≤ b.request_room
  pub request_room : b.request_room ≤ most_request_room
  pub few_accounts : length b.accounts ≤ most_accounts
  pub accounts : All (IsAccount b.processes) b.accounts
  pub rounds : rounds_of b ≤ most_rounds
  pub total : total_of b < 2 ^ 64

-- a book so far, with the sums of its rounds and openings
pub record IsSummed (b : BookTerms) (rounds total : ℕ) : Type 0 where
  pub begun : IsBegun b
  pub rounds_summed : rounds ≡ rounds_of b
  pub total_summed : total ≡ total_of b

-- what holds of every book: all limits, those of `IsBegun`, and there is an account
pub record IsBook (b : BookTerms) : Type 0 where
  pub begun : IsBegun b
  pub some_account : 1 ≤ length b.accounts
