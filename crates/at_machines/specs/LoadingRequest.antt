-- Loads of announced requests that are made one word a turn.
use Rattle.std.specs.Prelude.{ℕ, ◌+◌, ◌==◌, Option, None, Some, if◌then◌else◌}
use Rattle.at_machines.specs.Prelude.{BookTerms, Knowledge, LoadsRequestWord, BoardStep, BoardWord, REQUEST_WORDS}

-- a load by what its seat knew at the start and after the last turn, by the request's account, slot and number, and by how many
-- words are loaded
pub record LoadingRequestTerms : Type 0 where
  pub start : Knowledge
  pub mark : Knowledge
  pub account : ℕ
  pub slot : ℕ
  pub number : ℕ
  pub loaded : ℕ

abbrev pub starting_request : Knowledge → ℕ → ℕ → ℕ → LoadingRequestTerms
starting_request v a slot number = record { start = v; mark = v; account = a; slot = slot; number = number; loaded = 0 }

-- the load after one more turn
abbrev pub request_after : LoadingRequestTerms → Knowledge → LoadingRequestTerms
request_after l v = record { start = l.start; mark = v; account = l.account; slot = l.slot; number = l.number; loaded = l.loaded + 1 }

-- the next load: none after the last word
abbrev pub request_step : LoadingRequestTerms → Option BoardStep
request_step l =
    if l.loaded == REQUEST_WORDS then None else Some (BoardStep.Load (BoardWord.Request l.account l.slot l.number l.loaded))

-- the seat has then loaded the next word of the request, whatever it is, and nothing else
abbrev pub LoadsNextRequestWord : BookTerms → LoadingRequestTerms → Knowledge → Type 0
LoadsNextRequestWord b l v = (word : ℕ) × LoadsRequestWord b l.mark v l.account l.slot l.number l.loaded word
