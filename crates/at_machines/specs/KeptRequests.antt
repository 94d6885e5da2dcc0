-- What the type of a load of a request in the making keeps of its fields, which no caller sees.
use Rattle.std.specs.Prelude.{ℕ, ◌≤◌, List}
use Rattle.at_machines.specs.Prelude.{IsKept, KnowsOf, REQUEST_WORDS, IsLoaded}
use Rattle.at_machines.specs.LoadingRequest.{LoadingRequestTerms}
use Rattle.at_machines.specs.declared.loading_request.LoadingRequest.TheInside.{Inside}

-- the terms of its fields
abbrev pub loading_request_of : Inside → LoadingRequestTerms
loading_request_of l = record {
  start = l.start.value.knows;
  mark = l.mark.value.knows;
  account = l.account;
  slot = l.slot;
  number = l.number;
  loaded = l.loaded;
}

-- at the start the seat knew of the request, and so many of its words are loaded since then, and nothing else has changed
pub record IsLoadingRequestSo (l : LoadingRequestTerms) (words : List ℕ) : Type 0 where
  pub seat : IsKept l.start
  pub known : KnowsOf l.start l.account l.slot l.number
  pub within : l.loaded ≤ REQUEST_WORDS
  pub so_far : IsLoaded l.start.book l.start l.mark l.account l.slot l.number words l.loaded
