-- What holds of all the requests, decisions and records that a seat has seen.
use Rattle.std.specs.Prelude.{◌≡◌, ℕ, ◌<◌, ◌≤◌, All}
use Rattle.at_board.specs.Prelude.{InRange, Decision, rounds_room, BookTerms, account_of, places_max, AreTargets, Entry, Own, Round, Request}
use Rattle.at_board.specs.Knowledge.Parts.{SeesDecision, SeesRequest}
use Rattle.at_board.specs.Words.Addresses.{IsAddress, request_word}
use Rattle.at_board.specs.declared.knowledge.SeenDecision.{SeenDecision}
use Rattle.at_board.specs.declared.knowledge.SeenRequest.{SeenRequest}
use Rattle.at_board.specs.declared.knowledge.Knowledge.{Knowledge}

-- the board has words for the request; each of its targets is an account, and its `since` is at most the longest list's length
pub record RequestInRange (b : BookTerms) (x : SeenRequest) : Type 0 where
  pub words : IsAddress b (request_word x.account x.slot x.number 0)
  pub targets : AreTargets b x.request.targets
  pub since : x.request.since ≤ places_max

-- the numbers of a decision fit its word, and the board has words for the request that it names and for the round
pub record DecisionInRange (b : BookTerms) (x : SeenDecision) : Type 0 where
  pub words : IsAddress b (request_word x.account x.decision.slot x.decision.number 0)
  pub range : InRange x.decision
  pub room : x.round < rounds_room b.request_room (account_of b x.account)

-- each request and each decision that the seat has seen is in range
pub record SeesInRange (v : Knowledge) : Type 0 where
  pub requests : All (RequestInRange v.book) v.requests
  pub decisions : All (DecisionInRange v.book) v.decisions

-- the seat has seen no other decision of the round, no other round that decides the request, and no later `since` of the request
pub record AgreesOnDecision (v : Knowledge) (account round : ℕ) (d : Decision) : Type 0 where
  pub same : (e : Decision) → SeesDecision v account round e → e ≡ d
  pub once : (other : ℕ) (e : Decision) → SeesDecision v account other e → e.slot ≡ d.slot → e.number ≡ d.number → other ≡ round
  pub since : (r : Request) → SeesRequest v account d.slot d.number r → r.since ≤ d.place

-- a round's record says what the seat has seen of the round: its decision, and the targets of the request that this names
abbrev pub AgreesOnEntry : Knowledge → Entry → Type 0
AgreesOnEntry v (Own from targets) = Unit {0}
AgreesOnEntry v (Round account round decision targets) =
    AgreesOnDecision v account round decision
    × ((r : Request) → SeesRequest v account decision.slot decision.number r → r.targets ≡ targets)

-- what the seat has seen agrees: its requests, its decisions and its records say the same. One request for a slot and number; one decision for
-- a round; no request decided in two rounds, or at a place before its `since`; a round's record has the decision and the targets that were
-- seen
pub record AgreesWithSeen (v : Knowledge) : Type 0 where
  pub requests : (account slot number : ℕ) (r q : Request) → SeesRequest v account slot number r →
      SeesRequest v account slot number q → r ≡ q
  pub decisions : (account round : ℕ) (d : Decision) → SeesDecision v account round d → AgreesOnDecision v account round d
  pub records : All (λ x. AgreesOnEntry v x.entry) v.seen
