-- Sums of what processes ask of accounts: a row for each process, with a number for each account.
use Rattle.std.specs.Prelude.{◌≡◌, ℕ, ◌+◌, ◌*◌, ◌<◌, ◌≤◌, ◌^◌, List, [], length, slice_index, slice_index_or}
use Rattle.at_tables.specs.Prelude.{BookTerms, Call, asked_in_file}
use Rattle.at_tables.specs.NeedsText.{owner_asks}

-- the number of an account in the row of a process
abbrev pub row_number : List (List ℕ) → ℕ → ℕ → ℕ
row_number rows a process = slice_index (slice_index_or rows process []) a

-- what these calls of the process ask is added to its row, and no number rises by more than 2 ^ 66 a call
pub record AreAddedUp (b : BookTerms) (process : ℕ) (calls : List Call) (old new : List ℕ) : Type 0 where
  pub accounts : length new ≡ length old
  pub each : (a : ℕ) → a < length b.accounts → slice_index new a ≡ slice_index old a + asked_in_file b process a calls
  pub small : (a : ℕ) → a < length b.accounts → slice_index new a ≤ slice_index old a + 73786976294838206464 * length calls

-- so many calls more can be added to the row
abbrev pub HasRoomToAdd : BookTerms → List ℕ → ℕ → Type 0
HasRoomToAdd b row calls = (a : ℕ) → a < length b.accounts → slice_index row a + 73786976294838206464 * calls < 2 ^ 128

-- the row of each of the first processes
pub record AreSumRows (b : BookTerms) (rows : List (List ℕ)) (processes : ℕ) : Type 0 where
  pub count : length rows ≡ processes
  pub accounts : (p : ℕ) → p < processes → length (slice_index_or rows p []) ≡ length b.accounts
  pub small : (p : ℕ) → p < processes → (a : ℕ) → a < length b.accounts → row_number rows a p ≤ 2 ^ 80

-- it has what the process asks of each account in its file
abbrev pub HaveSums : BookTerms → List (List Call) → List (List ℕ) → ℕ → Type 0
HaveSums b files rows processes = (p : ℕ) → p < processes → (a : ℕ) → a < length b.accounts → row_number rows a p ≡ owner_asks b files a p
