-- Collecting the rows of an account, between them.
use Rattle.std.specs.Prelude.{◌≡◌, ◌≢◌, ℕ, ◌+◌, ◌*◌, ◌<◌, ◌≤◌, ◌⊎◌, List, length, map, Contains}
use Rattle.at_requests.specs.Prelude.{range_with_len, SeenRow, SeesRequest, Knowledge, LoadedWord, SeenRequest, REQUEST_WORDS}
use Rattle.at_requests.specs.OpenRequests.{AreBelow, AreRising, IsAmong, request_of, seen_of}
use Rattle.at_requests.specs.Rows.{LoadsOnly, SeesAsked, WordCounts}
use Rattle.at_requests.specs.declared.open_request.OpenRequest.{OpenRequest}

-- each word of the request is among these
abbrev pub AreWords : List LoadedWord → SeenRequest → Type 0
AreWords words y = (j : ℕ) → j < REQUEST_WORDS → Contains words (record { request = y; word = j })

-- what an element is: the seat's own request, or the last one that was counted in the row of another owner, whole
abbrev pub IsOwnOrLast : ℕ → OpenRequest → List SeenRow → List LoadedWord → OpenRequest → Type 0
IsOwnOrLast a own rows words x = (x ≡ own) ⊎ ((x.slot ≢ own.slot) × WordCounts rows x.slot (x.number + 1) × AreWords words (seen_of a x))

-- the row of another owner was loaded, and the last request that it counts is in the list
abbrev pub HasRow : List SeenRow → List OpenRequest → ℕ → Type 0
HasRow rows list slot = (n : ℕ) × WordCounts rows slot n
    × ((number : ℕ) → number + 1 ≡ n → (x : OpenRequest) × Contains list x × (x.slot ≡ slot) × (x.number ≡ number))

-- the rows of the owners at the slots below s were loaded, in so many steps
pub record IsCollectingRows (v w : Knowledge) (a : ℕ) (own : OpenRequest) (list : List OpenRequest) (s made : ℕ) : Type 0 where
  pub rows : List SeenRow
  pub words : List LoadedWord
  pub loads : LoadsOnly v w a rows words
  pub rising : AreRising list
  pub below : AreBelow list s
  pub few : length list ≤ s
  pub own_in : own.slot < s → Contains list own
  pub last : (x : OpenRequest) → Contains list x → IsOwnOrLast a own rows words x
  pub counted : (slot : ℕ) → slot < s → slot ≢ own.slot → HasRow rows list slot
  pub only : (l : LoadedWord) → Contains words l → IsAmong a list l.request
  pub slots : map (λ r. r.slot) rows ≡ range_with_len 0 s
  pub own_seen : SeesRequest w a own.slot own.number (request_of own)
  pub seen : (x : OpenRequest) → Contains list x → SeesAsked w a x
  pub steps_before : s ≤ own.slot → made ≡ s + REQUEST_WORDS * length list
  pub steps_after : own.slot < s → made + REQUEST_WORDS ≡ s + REQUEST_WORDS * length list
