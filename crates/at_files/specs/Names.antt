-- The names of a book's processes and accounts.
use Rattle.std.specs.Prelude.{◌≡◌, ℕ, ◌≤◌, ◌==◌, Bool, true, ◌&&◌, ◌||◌, ◌⊎◌, List, [], length, map, All, bytes_eq, decimal, nat_le, position, slice_index, slice_index_or, Option}
use Rattle.at_files.specs.Prelude.{is_ascii_digit, is_ascii_lowercase, IsDistinct, list_all, list_any, range_with_len, BookTerms, most_accounts}
use Rattle.at_files.specs.Limits.{most_name_bytes}

-- the version of the book that gives them, and a name for each process and each account, in order
pub record NameList : Type 0 where
  pub version : ℕ
  pub processes : List (List ℕ)
  pub accounts : List (List ℕ)

-- the name of a process, of an account
abbrev pub process_name : NameList → ℕ → List ℕ
process_name names process = slice_index_or names.processes process []

abbrev pub account_name : NameList → ℕ → List ℕ
account_name names account = slice_index_or names.accounts account []

-- the position of a name among others, from 0
abbrev pub position_of : List (List ℕ) → List ℕ → Option ℕ
position_of names name = position (bytes_eq name) names

-- whether the name is among them
abbrev pub has_name : List (List ℕ) → List ℕ → Bool
has_name names name = list_any (bytes_eq name) names

-- the numbers below `count`, as text
abbrev pub decimals_below : ℕ → List (List ℕ)
decimals_below count = map decimal (range_with_len 0 count)

-- the names of version 1: the canonical decimals of its processes and accounts
abbrev pub plain_names : BookTerms → NameList
plain_names b = record { version = 1; processes = decimals_below b.processes; accounts = decimals_below (length b.accounts) }

-- a small letter, a digit or a hyphen
abbrev pub is_name_byte : ℕ → Bool
is_name_byte byte = is_ascii_lowercase byte || is_ascii_digit byte || (byte == 45)

-- a name of version 2: 1 to 16 of these bytes, the first of which is a letter
abbrev pub is_name : List ℕ → Bool
is_name text = nat_le (length text) most_name_bytes && list_all is_name_byte text && is_ascii_lowercase (slice_index text 0)

-- what each name of a book of this version is: its number in version 1, and of the form above in version 2
abbrev pub AreFormed : ℕ → List (List ℕ) → Type 0
AreFormed version names =
    ((version ≡ 1) × (names ≡ decimals_below (length names))) ⊎ ((version ≡ 2) × All (λ name. is_name name ≡ true) names)

-- the names of the processes, or of the accounts, of a book of this version: no two are the same
pub record AreNames (version : ℕ) (names : List (List ℕ)) : Type 0 where
  pub formed : AreFormed version names
  pub distinct : IsDistinct bytes_eq names

-- what holds of the names of every book
pub record IsNameList (names : NameList) : Type 0 where
  pub processes : AreNames names.version names.processes
  pub accounts : AreNames names.version names.accounts
  pub few_accounts : length names.accounts ≤ most_accounts

-- these are the names of the book: one for each process and each account. In version 1 each is its number; in version 2 each has the form of a
-- name, and no two processes and no two accounts have one name
pub record AreNamesOf (b : BookTerms) (names : NameList) : Type 0 where
  pub processes : length names.processes ≡ b.processes
  pub accounts : length names.accounts ≡ length b.accounts
  pub formed : IsNameList names
