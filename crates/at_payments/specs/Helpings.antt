-- What a helping has to do with its owner's seat.
use Rattle.std.specs.Prelude.{◌≡◌, ℕ, ◌-◌, ◌<◌, ◌≤◌, ◌⊎◌, true, List, length, All, Contains, None}
use Rattle.at_payments.specs.Prelude.{slots_of, BookTerms, HasSlot, account_of, place, is_settled, rounds, Publication, SeenRow, HasLoadedRows, IsCandidate, SeesRequest, asking_on, own_part, Announces, Knowledge, LoadedWord, Loads, HasAsked, IsAmong, request_of, seen_of, LoadsOnly, OpenRequest, HasLoaded, IsSnapshot}
use Rattle.at_payments.specs.HelpingTerms.{HelpingTerms}

-- how many exchanges on cells of the account the seat's process has made, and how many rounds it had heard there when it last asked
abbrev pub decides_on : Knowledge → ℕ → ℕ
decides_on v a = (asking_on (own_part v) a).decides

-- how many rounds of the account the process had heard there when it last asked
abbrev pub heard_on : Knowledge → ℕ → ℕ
heard_on v a = (asking_on (own_part v) a).heard

-- its loads of lengths up to its last announcement on the account
abbrev pub loads_asked : Knowledge → ℕ → List Loads
loads_asked v a = (asking_on (own_part v) a).loads

-- how many exchanges on cells of the account it has made between two moments
abbrev pub decides_made : ℕ → Knowledge → Knowledge → ℕ
decides_made a before after = decides_on after a - decides_on before a

-- each request of the seat's process on the account is settled in what the seat has seen
abbrev pub HasAllSettled : BookTerms → Knowledge → ℕ → Type 0
HasAllSettled b v a = (slot number : ℕ) → HasSlot b v.first a slot → number < length (asking_on (own_part v) a).announced →
    is_settled a slot number v.seen ≡ true

-- the request is the last that the seat's process has announced on the account. The process has loaded the others' rows since then,
-- holds no cell, and has seen each request that was collected: these are the ones that it may propose, but for those that are
-- settled in the list
pub record IsHelpingAt (b : BookTerms) (v : Knowledge) (list : List Publication) (h : HelpingTerms) : Type 0 where
  pub asked : HasAsked b v h.account h.own
  pub room : h.own.number < b.request_room
  pub since : h.own.since ≤ length list
  pub heard : heard_on v h.account ≤ rounds h.account list
  pub free : (own_part v).held ≡ None
  pub collected : HasLoadedRows b v h.account h.own.slot
  pub own_in : Contains h.asked h.own
  pub slots : All (λ x. x.slot < slots_of (account_of b h.account)) h.asked
  pub seen : (x : OpenRequest) → Contains h.asked x → SeesRequest v h.account x.slot x.number (request_of x)
  pub candidates : (x : OpenRequest) → Contains h.asked x →
      IsCandidate (asking_on (own_part v) h.account) h.account h.own.slot (seen_of h.account x)
  pub loaded : (l : LoadedWord) → Contains (asking_on (own_part v) h.account).loaded l →
      IsAmong h.account h.asked l.request ⊎ (is_settled h.account l.request.slot l.request.number list ≡ true)

-- the same of all that the seat has seen. The request is the last of the seat's process on the account, whose rows it has loaded since; it
-- holds no cell, and what it may propose is among the collected requests, but for settled ones
abbrev pub IsHelping : BookTerms → Knowledge → HelpingTerms → Type 0
IsHelping b v h = IsHelpingAt b v v.seen h

-- a call has looked, announced its request with the place of its cut, and loaded the rows
pub record HasStarted (b : BookTerms) (before after : Knowledge) (h : HelpingTerms) : Type 0 where
  pub cut : List ℕ
  pub looked : Knowledge
  pub snapshot : IsSnapshot b before looked cut
  pub loads : HasLoaded b before looked
  pub since : h.own.since ≡ place cut
  pub number : h.own.number ≡ length (asking_on (own_part before) h.account).announced
  pub asked : Knowledge
  pub announced : Announces b looked asked h.account h.own.slot (request_of h.own)
  pub rows : List SeenRow
  pub words : List LoadedWord
  pub row_loads : LoadsOnly asked after h.account rows words
