-- A load of a request, between its steps.
use Rattle.std.specs.Prelude.{◌≡◌, ℕ, ◌<◌, ◌≤◌, ◌++◌, List, replicate, slice_index}
use Rattle.at_requests.specs.Prelude.{BookTerms, places_max, AreTargets, Request, SeesRequest, asking_on, own_part, seen_as, with_asking, request_words, Knowledge, SeenRequest}
use Rattle.at_requests.specs.Loads.{first_words, with_words}

-- the seat after loads of the first j words of a request
abbrev pub with_first_words : Knowledge → ℕ → SeenRequest → ℕ → Knowledge
with_first_words v a x j =
    with_asking (record v { requests = v.requests ++ replicate j x }) a (with_words (asking_on (own_part v) a) (first_words x j))

-- the first j words of a request were loaded, and they are these
pub record IsLoading (b : BookTerms) (v u : Knowledge) (a slot number : ℕ) (words : List ℕ) (j : ℕ) : Type 0 where
  pub request : Request
  pub known : (q : Request) → SeesRequest v a slot number q → q ≡ request
  pub targets : AreTargets b request.targets
  pub since : request.since ≤ places_max
  pub same : u ≡ with_first_words v a (seen_as a slot number request) j
  pub words_so_far : (k : ℕ) → k < j → slice_index words k ≡ slice_index (request_words request) k

-- before the first load, or after some
pub record IsLoaded (b : BookTerms) (v u : Knowledge) (a slot number : ℕ) (words : List ℕ) (j : ℕ) : Type 0 where
  pub start : j ≡ 0 → u ≡ v
  pub loading : 0 < j → IsLoading b v u a slot number words j
