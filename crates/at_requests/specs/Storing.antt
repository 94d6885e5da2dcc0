-- Asking, between its steps.
use Rattle.std.specs.Prelude.{◌≡◌, ℕ, ◌<◌, List, length, slice_index}
use Rattle.at_requests.specs.Prelude.{asking_on, own_part, with_asking, Asking, Knowledge, REQUEST_WORDS}

-- what it has on the account, with these words of the next request
abbrev pub with_request_stored : Asking → List ℕ → Asking
with_request_stored w stored = record w { stored = stored }

-- the first j words of the next request are stored, they are these, and nothing else has changed
pub record IsStoringRequest (before after : Knowledge) (a : ℕ) (words : List ℕ) (j : ℕ) : Type 0 where
  pub stored : List ℕ
  pub sized : length stored ≡ REQUEST_WORDS
  pub same : after ≡ with_asking before a (with_request_stored (asking_on (own_part before) a) stored)
  pub words_so_far : (k : ℕ) → k < j → slice_index stored k ≡ slice_index words k
