-- Requests by the slots of their owners.
use Rattle.std.specs.Prelude.{◌≡◌, ℕ, ◌<◌, List, [], length, slice_index_or, Contains}
use Rattle.at_requests.specs.Prelude.{Request, seen_as, SeenRequest}
use Rattle.at_requests.specs.declared.open_request.OpenRequest.{OpenRequest}

-- what is asked for
abbrev pub request_of : OpenRequest → Request
request_of x = record { targets = x.targets; since = x.since }

-- the request on an account, as a seat has seen it
abbrev pub seen_of : ℕ → OpenRequest → SeenRequest
seen_of a x = seen_as a x.slot x.number (request_of x)

-- the request at a position
abbrev pub request_in : List OpenRequest → ℕ → OpenRequest
request_in list i = slice_index_or list i (record { slot = 0; number = 0; targets = []; since = 0 })

-- each slot is above those before it
abbrev pub AreRising : List OpenRequest → Type 0
AreRising list = (i j : ℕ) → i < j → j < length list → (request_in list i).slot < (request_in list j).slot

-- the slots of all of them are below this one
abbrev pub AreBelow : List OpenRequest → ℕ → Type 0
AreBelow list slot = (k : ℕ) → k < length list → (request_in list k).slot < slot

-- it is one of the list, on this account
abbrev pub IsAmong : ℕ → List OpenRequest → SeenRequest → Type 0
IsAmong a list y = (x : OpenRequest) × Contains list x × (y ≡ seen_of a x)
