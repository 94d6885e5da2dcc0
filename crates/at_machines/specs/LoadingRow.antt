-- Rows of owners that are loaded one word a turn.
use Rattle.std.specs.Prelude.{◌≡◌, ◌≢◌, ℕ, ◌+◌, ◌<◌, ◌⊎◌, Option, None, Some}
use Rattle.at_machines.specs.Prelude.{BookTerms, LoadsAnnounced, LoadsRequestWord, Knowledge, BoardStep, BoardWord, REQUEST_WORDS, OpenRequest}
use Rattle.at_machines.specs.declared.row_stage.RowStage.{RowStage}
use Rattle.at_machines.specs.declared.row_stage.RowStage.TheVariants.{Announced, Last, Ended}

-- what the next turn loads: the announced word of the row, this word of its request of this number, or nothing
pub data NextRowLoad : Type 0 where
  announced_word : NextRowLoad
  request_word : (number word : ℕ) → NextRowLoad
  nothing : NextRowLoad

-- a row by what its seat knew at the start and after the last turn, by its account and slot, by the caller's own request, and by
-- what comes next
pub record LoadingRowTerms : Type 0 where
  pub start : Knowledge
  pub mark : Knowledge
  pub account : ℕ
  pub slot : ℕ
  pub own : OpenRequest
  pub next : NextRowLoad

abbrev pub starting_row : Knowledge → ℕ → ℕ → OpenRequest → LoadingRowTerms
starting_row v a slot own = record { start = v; mark = v; account = a; slot = slot; own = own; next = announced_word }

-- the row after one more turn
abbrev pub row_after : LoadingRowTerms → Knowledge → NextRowLoad → LoadingRowTerms
row_after r v next = record { start = r.start; mark = v; account = r.account; slot = r.slot; own = r.own; next = next }

-- what comes next in a stage
abbrev pub next_in_row : RowStage → NextRowLoad
next_in_row Announced = announced_word
next_in_row (Last l) = request_word l.number l.loaded
next_in_row Ended = nothing

-- the step of that load, of a slot of the account
abbrev pub row_step : ℕ → ℕ → NextRowLoad → Option BoardStep
row_step a slot announced_word = Some (BoardStep.Load (BoardWord.Announced a slot))
row_step a slot (request_word number word) = Some (BoardStep.Load (BoardWord.Request a slot number word))
row_step a slot nothing = None

-- how many loads of the row were made before this one
abbrev pub row_turns : NextRowLoad → ℕ
row_turns announced_word = 0
row_turns (request_word number word) = 1 + word
row_turns nothing = 0

-- what may come after an announced word that counted so many: of another owner the last request that it counts, if there is one
abbrev pub FollowsAnnounced : ℕ → ℕ → ℕ → NextRowLoad → Type 0
FollowsAnnounced slot own count announced_word = ⊥
FollowsAnnounced slot own count (request_word number word) = (slot ≢ own) × (number + 1 ≡ count) × (word ≡ 0)
FollowsAnnounced slot own count nothing = (slot ≡ own) ⊎ (count ≡ 0)

-- what comes after a word of a request
abbrev pub FollowsWord : ℕ → ℕ → NextRowLoad → Type 0
FollowsWord number word next = (word + 1 < REQUEST_WORDS → next ≡ request_word number (word + 1)) × (word + 1 ≡ REQUEST_WORDS → next ≡ nothing)

-- just this load was made, and then this comes
abbrev pub MakesLoadOf : BookTerms → Knowledge → Knowledge → ℕ → ℕ → ℕ → NextRowLoad → NextRowLoad → Type 0
MakesLoadOf b before after a slot own announced_word next = (count : ℕ) × LoadsAnnounced b before after a slot count × FollowsAnnounced slot own count next
MakesLoadOf b before after a slot own (request_word number word) next =
    (n : ℕ) × LoadsRequestWord b before after a slot number word n × FollowsWord number word next
MakesLoadOf b before after a slot own nothing next = ⊥

-- the next load of the row was made, and then this comes
abbrev pub MakesRowLoad : BookTerms → LoadingRowTerms → Knowledge → NextRowLoad → Type 0
MakesRowLoad b r v next = MakesLoadOf b r.mark v r.account r.slot r.own.slot r.next next
