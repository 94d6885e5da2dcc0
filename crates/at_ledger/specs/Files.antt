-- The calls of all processes, each process's in a list of the program.
use Rattle.std.specs.Prelude.{ℕ, ◌≤◌, List, length, map, All, Vec}
use Rattle.at_ledger.specs.Prelude.{Global}
use Rattle.at_ledger.specs.Call.{IsCallOn}
use Rattle.at_ledger.specs.declared.call.Call.{Call}
use Rattle.at_ledger.specs.Limits.{most_calls}

-- what each list of the program holds: the calls, or the receipts, of each process
abbrev pub contents_of : {T : Type 0} → List (Vec T Global) → List (List T)
contents_of lists = map (λ list. list.items) lists

-- the calls of a file name accounts that are there, and are not too many
pub record IsPlayable (accounts : ℕ) (calls : List Call) : Type 0 where
  pub known : All (IsCallOn accounts) calls
  pub few : length calls ≤ most_calls
