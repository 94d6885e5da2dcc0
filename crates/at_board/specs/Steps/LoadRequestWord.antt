-- A load of a word of an announced request.
use Rattle.std.specs.Prelude.{◌≡◌, ℕ, ◌<◌, ◌⊎◌, ◌≤◌, ◌++◌, [], ◌∷◌, slice_index}
use Rattle.at_board.specs.Prelude.{Decision, BookTerms, places_max, AreTargets, Request}
use Rattle.at_board.specs.Knowledge.Agreement.{AgreesWithSeen}
use Rattle.at_board.specs.Knowledge.Parts.{SeesDecision, SeesRequest, asking_on, own_part, with_asking, seen_as}
use Rattle.at_board.specs.Words.Packed.{request_words}
use Rattle.at_board.specs.declared.knowledge.Asking.{Asking}
use Rattle.at_board.specs.declared.knowledge.SeenRequest.{SeenRequest}
use Rattle.at_board.specs.declared.knowledge.Knowledge.{Knowledge}
use Rattle.at_board.specs.declared.words.TheConstants.{REQUEST_WORDS}

-- the seat has seen the request, or a decision that names it
abbrev pub KnowsOf : Knowledge → ℕ → ℕ → ℕ → Type 0
KnowsOf v a slot number =
    ((r : Request) × SeesRequest v a slot number r)
    ⊎ ((round : ℕ) × (d : Decision) × SeesDecision v a round d × (d.slot ≡ slot) × (d.number ≡ number))

-- the seat knows that this request was announced, and a request has a word of this number
pub record MayLoadRequest (v : Knowledge) (a slot number j : ℕ) : Type 0 where
  pub known : KnowsOf v a slot number
  pub word : j < REQUEST_WORDS

-- a word of this request was loaded
abbrev pub with_loaded : Asking → SeenRequest → ℕ → Asking
with_loaded w x j = record w { loaded = w.loaded ++ record { request = x; word = j } ∷ [] }

-- a load of a word of an announced request: the seat has then seen the request, and had seen no other in its place
pub record LoadsRequestWord (b : BookTerms) (before after : Knowledge) (a slot number j w : ℕ) : Type 0 where
  pub request : Request
  pub word : w ≡ slice_index (request_words request) j
  pub known : (r : Request) → SeesRequest before a slot number r → r ≡ request
  pub targets : AreTargets b request.targets
  pub since : request.since ≤ places_max
  pub agrees : AgreesWithSeen after
  pub same : let x : SeenRequest = seen_as a slot number request in
      after ≡ with_asking (record before { requests = before.requests ++ x ∷ [] }) a (with_loaded (asking_on (own_part before) a) x j)
