-- Asking on an account.
use Rattle.std.specs.Prelude.{◌≡◌, ℕ, ◌+◌, ◌≤◌, true, List, [], length, take}
use Rattle.at_requests.specs.Prelude.{BookTerms, HasSlot, TargetPair, request_at, IsLastRequest, is_settled, AreTargets, Request, asking_on, own_part, MayStoreRequest, Knowledge}
use Rattle.at_requests.specs.OpenRequests.{request_of}
use Rattle.at_requests.specs.declared.open_request.OpenRequest.{OpenRequest}

-- the request that these make, without its place and with it
abbrev pub asked_for : List TargetPair → ℕ → Request
asked_for targets since = record { targets = targets; since = since }

abbrev pub opened : ℕ → ℕ → List TargetPair → ℕ → OpenRequest
opened slot number targets since = record { slot = slot; number = number; targets = targets; since = since }

-- the seat may ask for this on the account: it has room there, and at the cut of the request's `since` the one before it is
-- settled
pub record MayAskFor (b : BookTerms) (v : Knowledge) (a slot : ℕ) (r : Request) : Type 0 where
  pub asks : MayStoreRequest b v a slot
  pub targets : AreTargets b r.targets
  pub since : r.since ≤ length v.seen
  pub follows : (before : ℕ) → before + 1 ≡ length (asking_on (own_part v) a).announced →
      is_settled a slot before (take r.since v.seen) ≡ true

-- it is the last request that the seat's process has announced on the account
pub record HasAsked (b : BookTerms) (v : Knowledge) (a : ℕ) (x : OpenRequest) : Type 0 where
  pub slot_in : HasSlot b v.first a x.slot
  pub last : IsLastRequest (asking_on (own_part v) a).announced x.number
  pub same : request_at (asking_on (own_part v) a).announced x.number ≡ request_of x

-- the seat's process has loaded no row and no request of the account since it last announced one there
pub record HasLoadedNothing (v : Knowledge) (a : ℕ) : Type 0 where
  pub rows : (asking_on (own_part v) a).rows ≡ []
  pub loaded : (asking_on (own_part v) a).loaded ≡ []
