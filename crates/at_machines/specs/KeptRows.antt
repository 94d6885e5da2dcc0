-- What the types of rows in the making keep of their fields, which no caller sees.
use Rattle.std.specs.Prelude.{◌≡◌, ◌≢◌, ℕ, ◌+◌, ◌<◌, ◌≤◌, List, length}
use Rattle.at_machines.specs.Prelude.{slots_of, account_of, SeesRequest, IsKept, Knowledge, LoadsAnnounced, REQUEST_WORDS, HasAsked, IsCollectingRows, request_of, OpenRequest}
use Rattle.at_machines.specs.LoadingRow.{LoadingRowTerms, next_in_row, row_turns}
use Rattle.at_machines.specs.LoadingRow.NextRowLoad.{nothing}
use Rattle.at_machines.specs.declared.row_stage.RowStage.{RowStage}
use Rattle.at_machines.specs.declared.loading_row.LoadingRow.TheInside.{Inside}
use Rattle.at_machines.specs.declared.row_stage.RowStage.TheVariants.{Announced, Last, Ended}

-- the terms of its fields
abbrev pub loading_row_of : Inside → LoadingRowTerms
loading_row_of r = record {
  start = r.start.value.knows;
  mark = r.mark.value.knows;
  account = r.account;
  slot = r.slot;
  own = r.own;
  next = next_in_row r.stage;
}

-- of a stage: nothing is loaded yet; or the announced word of another owner was, which counts the request that is loaded as the last
abbrev pub IsRowStageSo : LoadingRowTerms → RowStage → Type 0
IsRowStageSo r Announced = r.mark ≡ r.start
IsRowStageSo r (Last l) = (l.mark ≡ r.mark) × (l.account ≡ r.account) × (l.slot ≡ r.slot) × (l.loaded < REQUEST_WORDS) × (r.slot ≢ r.own.slot)
    × LoadsAnnounced r.start.book r.start l.start r.account r.slot (l.number + 1)
IsRowStageSo r Ended = Unit {0}

-- what a row's type keeps: the slot is one of the account, and the seat had seen its own request at the start
pub record IsLoadingRowSo (r : LoadingRowTerms) (stage : RowStage) : Type 0 where
  pub seat : IsKept r.start
  pub book : r.mark.book ≡ r.start.book
  pub account_in : r.account < length r.start.book.accounts
  pub slot_in : r.slot < slots_of (account_of r.start.book r.account)
  pub own_seen : SeesRequest r.start r.account r.own.slot r.own.number (request_of r.own)
  pub stage_so : IsRowStageSo r stage

-- while a row is loaded, those of the slots before it are loaded whole, in so many turns, and so many more were made of this one: one
-- of the own row, and at most one for each word of another
pub record IsAmidRows (start : Knowledge) (row : LoadingRowTerms) (list : List OpenRequest) (made : ℕ) : Type 0 where
  pub slot_in : row.slot < slots_of (account_of start.book row.account)
  pub before : ℕ
  pub so_far : IsCollectingRows start row.start row.account row.own list row.slot before
  pub turns : made ≡ before + row_turns row.next
  pub few : row_turns row.next ≤ REQUEST_WORDS
  pub own_row : row.slot ≡ row.own.slot → row_turns row.next ≡ 0

-- what the type of collecting keeps: the own request was the last one that was announced at the start
pub record IsCollectingRowsSo (start : Knowledge) (row : LoadingRowTerms) (list : List OpenRequest) (made : ℕ) : Type 0 where
  pub seat : IsKept start
  pub asked : HasAsked start.book start row.account row.own
  pub book : row.mark.book ≡ start.book
  pub amid : row.next ≢ nothing → IsAmidRows start row list made
