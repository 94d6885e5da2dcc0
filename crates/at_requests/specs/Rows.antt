-- Loading the rows of an account.
use Rattle.std.specs.Prelude.{◌≡◌, ◌≢◌, ℕ, ◌+◌, ◌<◌, ◌≤◌, ◌⊎◌, ◌==◌, ◌++◌, List, [], ◌∷◌, length, map, Contains, Option, Some, None, IfSome, if◌then◌else◌}
use Rattle.at_requests.specs.Prelude.{range_with_len, slots_of, BookTerms, account_of, IsPrefix, SeenRow, IsCandidate, SeesRequest, asking_on, own_part, with_asking, Asking, Knowledge, LoadedWord, SeenRequest, REQUEST_WORDS}
use Rattle.at_requests.specs.Loads.{loaded_words}
use Rattle.at_requests.specs.OpenRequests.{IsAmong, request_of, seen_of}
use Rattle.at_requests.specs.declared.open_request.OpenRequest.{OpenRequest}

-- these rows and words were loaded besides
abbrev pub with_loads : Asking → List SeenRow → List LoadedWord → Asking
with_loads w rows words = record w { rows = w.rows ++ rows; loaded = w.loaded ++ words }

-- a seat has loaded these rows of an account and these words of its requests, and nothing else has changed: what it had seen is
-- a prefix of what it has seen, and requests are only gained
pub record LoadsOnly (before after : Knowledge) (a : ℕ) (rows : List SeenRow) (words : List LoadedWord) : Type 0 where
  pub more : IsPrefix before.seen after.seen
  pub gained : (x : SeenRequest) → Contains before.requests x → Contains after.requests x
  pub same : after ≡ with_asking (record before { seen = after.seen; requests = after.requests }) a
      (with_loads (asking_on (own_part before) a) rows words)

-- the seat has seen the request, as it was announced, and at least as many publications as its `since`
pub record SeesAsked (v : Knowledge) (a : ℕ) (x : OpenRequest) : Type 0 where
  pub sees : SeesRequest v a x.slot x.number (request_of x)
  pub since : x.since ≤ length v.seen

-- what is found in a row whose word counts so many: the caller's own request in its own, and of another owner the last request
-- that is counted, if there is one, of which these words were loaded
abbrev pub IsFound : ℕ → ℕ → OpenRequest → ℕ → List LoadedWord → Option OpenRequest → Type 0
IsFound a slot own count words None = (slot ≢ own.slot) × (count ≡ 0) × (words ≡ [])
IsFound a slot own count words (Some x) =
    ((slot ≡ own.slot) × (x ≡ own) × (words ≡ []))
    ⊎ ((slot ≢ own.slot) × (x.slot ≡ slot) × (x.number + 1 ≡ count) × (words ≡ loaded_words (seen_of a x)))

-- the row of one owner was loaded. What is found there is seen, and so are as many publications as its `since`
pub record LoadsRow (before after : Knowledge) (a slot : ℕ) (own : OpenRequest) (found : Option OpenRequest) : Type 0 where
  pub count : ℕ
  pub words : List LoadedWord
  pub loads : LoadsOnly before after a (record { slot = slot; count = count } ∷ []) words
  pub is_found : IsFound a slot own count words found
  pub seen : IfSome found (SeesAsked after a)

-- in so many steps
abbrev pub row_steps : ℕ → ℕ → Option OpenRequest → ℕ
row_steps own slot None = 1
row_steps own slot (Some x) = if slot == own then 1 else 1 + REQUEST_WORDS

-- the announced word of the slot counted so many
abbrev pub WordCounts : List SeenRow → ℕ → ℕ → Type 0
WordCounts rows slot n = Contains rows (record { slot = slot; count = n })

-- the announced word of each owner was loaded, once each in the order of the slots. The list has the seat's own request, and of
-- each other owner the last one that its word counted, if there is one
pub record CollectsRows (b : BookTerms) (before after : Knowledge) (a : ℕ) (own : OpenRequest) (list : List OpenRequest) : Type 0 where
  pub rows : List SeenRow
  pub words : List LoadedWord
  pub loads : LoadsOnly before after a rows words
  pub slots : map (λ r. r.slot) rows ≡ range_with_len 0 (slots_of (account_of b a))
  pub own_in : Contains list own
  pub last : (x : OpenRequest) → Contains list x → (x ≡ own) ⊎ ((x.slot ≢ own.slot) × WordCounts rows x.slot (x.number + 1))
  pub others : (slot : ℕ) → slot < slots_of (account_of b a) → slot ≢ own.slot → (n : ℕ) × WordCounts rows slot n
      × ((number : ℕ) → number + 1 ≡ n → (x : OpenRequest) × Contains list x × (x.slot ≡ slot) × (x.number ≡ number))
  pub within : (x : OpenRequest) → Contains list x → x.slot < slots_of (account_of b a)
  pub seen : (x : OpenRequest) → Contains list x → SeesAsked after a x

-- the requests of the list are those that the seat may propose: it may propose each, and no other, unless it had loaded a word of
-- that before
pub record AreCandidates (before after : Knowledge) (a own : ℕ) (list : List OpenRequest) : Type 0 where
  pub each : (y : SeenRequest) → IsAmong a list y → IsCandidate (asking_on (own_part after) a) a own y
  pub only : (l : LoadedWord) → Contains (asking_on (own_part after) a).loaded l →
      Contains (asking_on (own_part before) a).loaded l ⊎ IsAmong a list l.request
  pub all : (asking_on (own_part before) a).loaded ≡ [] → (y : SeenRequest) → IsCandidate (asking_on (own_part after) a) a own y → IsAmong a list y
