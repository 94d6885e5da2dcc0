-- The oldest request of a list that isn't done.
use Rattle.std.specs.Prelude.{ℕ, ◌<◌, ◌≤◌, List, slice_index, Contains, Option, Some, None}
use Rattle.at_requests.specs.Prelude.{ComesFirst}
use Rattle.at_requests.specs.OpenRequests.{request_in, request_of}
use Rattle.at_requests.specs.declared.open_request.OpenRequest.{OpenRequest}

-- so many requests are done at each slot, and this isn't one of them
abbrev pub IsNotDone : List ℕ → OpenRequest → Type 0
IsNotDone done x = slice_index done x.slot ≤ x.number

-- one request is older than another, or as old and of no larger slot
abbrev pub IsBefore : OpenRequest → OpenRequest → Type 0
IsBefore x y = ComesFirst x.slot (request_of x) y.slot (request_of y)

-- it is left, and of those that are left it comes first
pub record IsOldestOf (list : List OpenRequest) (done : List ℕ) (x : OpenRequest) : Type 0 where
  pub among : Contains list x
  pub left : IsNotDone done x
  pub first : (y : OpenRequest) → Contains list y → IsNotDone done y → IsBefore x y

-- the position of the oldest of the first so many, if one of them is left
abbrev pub IsFirstBelow : List OpenRequest → List ℕ → ℕ → Option ℕ → Type 0
IsFirstBelow list done n None = (k : ℕ) → k < n → ¬ IsNotDone done (request_in list k)
IsFirstBelow list done n (Some m) = (m < n) × IsNotDone done (request_in list m)
    × ((k : ℕ) → k < n → IsNotDone done (request_in list k) → IsBefore (request_in list m) (request_in list k))
