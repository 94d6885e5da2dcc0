-- What the type of asking in the making keeps of its fields, which no caller sees.
use Rattle.std.specs.Prelude.{◌≡◌, ℕ, ◌≤◌}
use Rattle.at_machines.specs.Prelude.{IsKept, request_words, REQUEST_WORDS, MayAskFor, IsStoringRequest}
use Rattle.at_machines.specs.Asking.{AskingTerms, request_asked}
use Rattle.at_machines.specs.declared.asking.Asking.TheInside.{Inside}

-- the terms of its fields
abbrev pub asking_of : Inside → AskingTerms
asking_of a = record {
  start = a.start.value.knows;
  mark = a.mark.value.knows;
  account = a.account;
  targets = a.targets;
  since = a.since;
  stored = a.stored;
}

-- at the start the seat might ask for the request, and until that is announced so many of its words are stored since then, and
-- nothing else has changed
pub record IsAskingSo (a : AskingTerms) : Type 0 where
  pub seat : IsKept a.start
  pub book : a.mark.book ≡ a.start.book
  pub may : (slot : ℕ) × MayAskFor a.start.book a.start a.account slot (request_asked a)
  pub so_far : a.stored ≤ REQUEST_WORDS → IsStoringRequest a.start a.mark a.account (request_words (request_asked a)) a.stored
