-- Rows of an account that are collected one load a turn.
use Rattle.std.specs.Prelude.{◌≡◌, ℕ, ◌+◌, ◌<◌}
use Rattle.at_machines.specs.Prelude.{slots_of, BookTerms, account_of, Knowledge, OpenRequest}
use Rattle.at_machines.specs.LoadingRow.{MakesLoadOf, NextRowLoad}
use Rattle.at_machines.specs.LoadingRow.NextRowLoad.{announced_word, request_word, nothing}

-- collecting by what its seat knew at the start and after the last turn, by the account and the caller's own request, by the slot
-- whose row is loaded and what comes next of it, and by how many turns were made
pub record CollectingRowsTerms : Type 0 where
  pub start : Knowledge
  pub mark : Knowledge
  pub account : ℕ
  pub own : OpenRequest
  pub slot : ℕ
  pub next : NextRowLoad
  pub made : ℕ

abbrev pub starting_rows : Knowledge → ℕ → OpenRequest → CollectingRowsTerms
starting_rows v a own = record { start = v; mark = v; account = a; own = own; slot = 0; next = announced_word; made = 0 }

-- collecting after one more turn, at a slot and what comes next of it
abbrev pub rows_after : CollectingRowsTerms → Knowledge → ℕ → NextRowLoad → CollectingRowsTerms
rows_after c v slot next = record { start = c.start; mark = v; account = c.account; own = c.own; slot = slot; next = next; made = c.made + 1 }

-- where a row goes on, that comes next; where it is whole, the row of the next slot does, and after the last one nothing
abbrev pub GoesOn : ℕ → ℕ → NextRowLoad → ℕ → NextRowLoad → Type 0
GoesOn slots slot announced_word after next = ⊥
GoesOn slots slot (request_word number word) after next = (after ≡ slot) × (next ≡ request_word number word)
GoesOn slots slot nothing after next = (slot + 1 < slots → (after ≡ slot + 1) × (next ≡ announced_word)) × (slot + 1 ≡ slots → next ≡ nothing)

-- just the next load was made
pub record MakesNextLoad (b : BookTerms) (c after : CollectingRowsTerms) : Type 0 where
  pub row_next : NextRowLoad
  pub load : MakesLoadOf b c.mark after.mark c.account c.slot c.own.slot c.next row_next
  pub goes_on : GoesOn (slots_of (account_of b c.account)) c.slot row_next after.slot after.next
