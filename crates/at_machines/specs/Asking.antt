-- Asking that is made one store a turn.
use Rattle.std.specs.Prelude.{ℕ, ◌+◌, ◌==◌, List, length, slice_index, Option, None, Some, if◌then◌else◌}
use Rattle.at_machines.specs.Prelude.{slot_in, BookTerms, HasSlot, account_of, TargetPair, Request, asking_on, own_part, Announces, StoresRequestWord, request_words, Knowledge, BoardStep, BoardWord, REQUEST_WORDS, asked_for}

-- asking by what its seat knew at the start and after the last turn, by the account, the targets and the `since`, and by how many
-- stores were made
pub record AskingTerms : Type 0 where
  pub start : Knowledge
  pub mark : Knowledge
  pub account : ℕ
  pub targets : List TargetPair
  pub since : ℕ
  pub stored : ℕ

abbrev pub starting_to_ask : Knowledge → ℕ → List TargetPair → ℕ → AskingTerms
starting_to_ask v a targets since = record { start = v; mark = v; account = a; targets = targets; since = since; stored = 0 }

-- asking after one more turn
abbrev pub asking_after : AskingTerms → Knowledge → AskingTerms
asking_after a v = record { start = a.start; mark = v; account = a.account; targets = a.targets; since = a.since; stored = a.stored + 1 }

-- what it announces
abbrev pub request_asked : AskingTerms → Request
request_asked a = asked_for a.targets a.since

-- the next store, in a slot of the account: of the next word of the request, and after the last one of the announced word
abbrev pub ask_step_in : AskingTerms → ℕ → BoardStep
ask_step_in a slot =
    if a.stored == REQUEST_WORDS then BoardStep.Store (BoardWord.Announced a.account slot)
    else BoardStep.Store (BoardWord.Request a.account slot (length (asking_on (own_part a.mark) a.account).announced) a.stored)

-- in the slot of the seat's process: none where the request is announced
abbrev pub ask_step_of : AskingTerms → Option ℕ → Option BoardStep
ask_step_of a None = None
ask_step_of a (Some slot) = if a.stored == REQUEST_WORDS + 1 then None else Some (ask_step_in a slot)

-- the next store as a step
abbrev pub ask_step : BookTerms → AskingTerms → Option BoardStep
ask_step b a = ask_step_of a (slot_in (account_of b a.account) a.mark.first)

-- the seat has then stored the next word of the request, in the slot of its process, and nothing else
abbrev pub StoresNextRequestWord : BookTerms → AskingTerms → Knowledge → Type 0
StoresNextRequestWord b a v = (slot : ℕ) × HasSlot b a.mark.first a.account slot
    × StoresRequestWord a.mark v a.account a.stored (slice_index (request_words (request_asked a)) a.stored)

-- the seat has then announced the request in the slot of its process, and nothing else
abbrev pub AnnouncesAsked : BookTerms → AskingTerms → Knowledge → Type 0
AnnouncesAsked b a v = (slot : ℕ) × HasSlot b a.mark.first a.account slot × Announces b a.mark v a.account slot (request_asked a)
