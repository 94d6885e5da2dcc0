-- Loading a whole request.
use Rattle.std.specs.Prelude.{◌≡◌, ℕ, ◌≤◌, ◌++◌, List, map, replicate}
use Rattle.at_requests.specs.Prelude.{range_with_len, BookTerms, places_max, AreTargets, Request, HasLoadedRequest, SeesRequest, asking_on, own_part, with_asking, Asking, Knowledge, LoadedWord, SeenRequest, REQUEST_WORDS}
use Rattle.at_requests.specs.OpenRequests.{request_of, seen_of}
use Rattle.at_requests.specs.declared.open_request.OpenRequest.{OpenRequest}

-- the first words of a request, as loaded
abbrev pub first_words : SeenRequest → ℕ → List LoadedWord
first_words x n = map (λ j. record { request = x; word = j }) (range_with_len 0 n)

-- and all of them
abbrev pub loaded_words : SeenRequest → List LoadedWord
loaded_words x = first_words x REQUEST_WORDS

-- these words were loaded besides
abbrev pub with_words : Asking → List LoadedWord → Asking
with_words w words = record w { loaded = w.loaded ++ words }

-- the request was loaded word by word, and the answer is that request: it is whole, and the same as whatever the seat had seen
-- of it
pub record LoadsRequest (b : BookTerms) (before after : Knowledge) (a slot number : ℕ) (x : OpenRequest) : Type 0 where
  pub slot_is : x.slot ≡ slot
  pub number_is : x.number ≡ number
  pub known : (r : Request) → SeesRequest before a slot number r → r ≡ request_of x
  pub sees : SeesRequest after a slot number (request_of x)
  pub targets : AreTargets b x.targets
  pub since : x.since ≤ places_max
  pub loaded : HasLoadedRequest (asking_on (own_part after) a) (seen_of a x)
  pub same : after ≡ with_asking (record before { requests = before.requests ++ replicate REQUEST_WORDS (seen_of a x) }) a
      (with_words (asking_on (own_part before) a) (loaded_words (seen_of a x)))
