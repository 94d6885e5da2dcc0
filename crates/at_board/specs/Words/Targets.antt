-- The word of a list of accounts.
use Rattle.std.specs.Prelude.{ℕ, ◌+◌, ◌*◌, ◌/◌, ◌%◌, ◌^◌, ◌<◌, ◌≤◌, List, length, map, slice_index, All}
use Rattle.at_board.specs.Prelude.{TargetPair}

-- the accounts of targets, in order
abbrev pub accounts_of : List TargetPair → List ℕ
accounts_of targets = map (λ t. t.0) targets

-- a list of accounts that a word can pack
pub record ArePacked (accounts : List ℕ) : Type 0 where
  pub some : 1 ≤ length accounts
  pub few : length accounts ≤ 4
  pub small : All (λ account. account < 2 ^ 10) accounts

-- ten bits for each account, 0 past the last, and then how many there are
abbrev pub targets_word : List ℕ → ℕ
targets_word accounts =
    slice_index accounts 0 + 2 ^ 10 * slice_index accounts 1 + 2 ^ 20 * slice_index accounts 2
    + 2 ^ 30 * slice_index accounts 3 + 2 ^ 40 * length accounts

-- the ten bits of a word from a bit on
abbrev pub account_in : ℕ → ℕ → ℕ
account_in word bit = word / 2 ^ bit % 2 ^ 10
