-- The parts of which a start is made.
use Rattle.std.specs.Prelude.{◌≡◌, ℕ, List, length}
use Rattle.at_payments.specs.Prelude.{BookTerms, place, HasLoadedRows, asking_on, own_part, Announces, Knowledge, HasAsked, HasLoadedNothing, request_of, AreCandidates, CollectsRows, OpenRequest, HasLoaded, IsSnapshot}

-- a seat has taken a snapshot, asked with its place for this request on the account, and collected these rows
pub record StartsBy (b : BookTerms) (before after : Knowledge) (a : ℕ) (own : OpenRequest) (list : List OpenRequest) : Type 0 where
  pub cut : List ℕ
  pub looked : Knowledge
  pub snapshot : IsSnapshot b before looked cut
  pub loads : HasLoaded b before looked
  pub since : own.since ≡ place cut
  pub number : own.number ≡ length (asking_on (own_part looked) a).announced
  pub asked : Knowledge
  pub announced : Announces b looked asked a own.slot (request_of own)
  pub nothing : HasLoadedNothing asked a
  pub rows : CollectsRows b asked after a own list
  pub candidates : AreCandidates asked after a own.slot list
  pub collected : HasLoadedRows b after a own.slot
  pub last : HasAsked b after a own
