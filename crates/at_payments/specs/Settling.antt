-- Where the receipt of a settled request stands, and the bounds of the calls.
use Rattle.std.specs.Prelude.{◌≡◌, ◌≢◌, ℕ, ◌+◌, ◌*◌, ◌<◌, ◌≤◌, ◌⊎◌, ◌++◌, List, [], ◌∷◌, length, Contains, Some, refl}
use Rattle.at_payments.specs.Prelude.{BookTerms, TargetPair, payout_of, Call, Reply, Done, Short, place, IsPrefix, owns_of, Request, asking_on, loads_of, own_part, with_part, Knowledge, SeenRequest, RECORD_WORDS, REQUEST_WORDS, key_of, At, Receipt, HasLoaded, IsSnapshot}
use Rattle.at_payments.specs.Helpings.{HasAllSettled, loads_asked}

-- what holds of the receipt of each call with this payout, where it has this reply and place
abbrev pub OnReceipts : ℕ → List TargetPair → Reply × At → (Receipt → Type 0) → Type 0
OnReceipts a targets answer holds =
    (call : Call) → payout_of call ≡ Some (a, targets) → holds (record { call = call; reply = answer.0; at = answer.1 })

-- the payment was done or short, in a round
pub record StandsInRound (answer : Reply × At) : Type 0 where
  pub round : ℕ
  pub place : ℕ
  pub at : answer.1 ≡ At.Round round place
  pub reply : (answer.0 ≡ Done) ⊎ (answer.0 ≡ Short)

-- the receipt stands at or after this place in the order of the calls, whatever stands before
abbrev pub StandsAfter : ℕ → Knowledge → Receipt → Type 0
StandsAfter place v r = (previous : ℕ) → 2 * place ≤ key_of v.first v.seen previous r

-- the call has announced one request on the account, whose `since` counts at least all that was seen before, and none elsewhere.
-- Each request of the seat's process there is settled now, its process has published no own record, and requests are only gained
pub record AsksOnce (b : BookTerms) (before after : Knowledge) (a : ℕ) : Type 0 where
  pub request : Request
  pub announced : (asking_on (own_part after) a).announced ≡ (asking_on (own_part before) a).announced ++ request ∷ []
  pub since : length before.seen ≤ request.since
  pub elsewhere : (c : ℕ) → c ≢ a → asking_on (own_part after) c ≡ asking_on (own_part before) c
  pub settled : HasAllSettled b after a
  pub owns : owns_of before.first after.seen ≡ owns_of before.first before.seen
  pub gained : (x : SeenRequest) → Contains before.requests x → Contains after.requests x

-- what the seat knows, with its loads of lengths only up to its last announcement on the account
abbrev pub as_asked : Knowledge → ℕ → Knowledge
as_asked v a = with_part v (record (own_part v) { loads = loads_asked v a })

-- the receipt stands at or after the cut of a snapshot that its call took before it announced its one request. `looked` is what the seat
-- knew with the snapshot, after loads of lengths alone. Each length was loaded in the call before the announcement, and the request's
-- `since` is the place of the cut
pub record StandsAfterSnapshot (b : BookTerms) (before after : Knowledge) (a : ℕ) (r : Receipt) : Type 0 where
  pub cut : List ℕ
  pub looked : Knowledge
  pub taken : IsSnapshot b before looked cut
  pub loads : HasLoaded b before looked
  pub more : IsPrefix looked.seen after.seen
  pub loads_kept : (own_part (as_asked after a)).loads ≡ (own_part looked).loads
  pub request : Request
  pub announced : (asking_on (own_part after) a).announced ≡ (asking_on (own_part before) a).announced ++ request ∷ []
  pub since : request.since ≡ place cut
  pub snapshot : IsSnapshot b before (as_asked after a) cut
  pub times : (p : ℕ) → p < b.processes → (loads_of (own_part (as_asked after a)) p).times ≤ (loads_of (own_part after) p).times
  pub after_cut : StandsAfter (place cut) after r

-- the most steps that asking and collecting take where the account has so many slots
abbrev pub asking_steps : ℕ → ℕ
asking_steps slots = (REQUEST_WORDS + 1) * slots + 1

-- of three, as a number: whoever changes the bound changes this too
pub asking_steps-3 : asking_steps 3 ≡ 22
asking_steps-3 = refl

-- the steps that one round takes of n processes: an exchange, the request, and the record
abbrev pub round_steps : ℕ → ℕ
round_steps n = 1 + REQUEST_WORDS + (RECORD_WORDS + n + 1)

pub round_steps-3 : round_steps 3 ≡ 18
round_steps-3 = refl
