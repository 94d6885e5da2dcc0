-- A load of an announced word.
use Rattle.std.specs.Prelude.{◌≡◌, ℕ, ◌<◌, ◌≤◌, ◌++◌, List, [], ◌∷◌, length, map, All}
use Rattle.at_board.specs.Prelude.{range_with_len, BookTerms, request_at, IsHistory, IsPrefix, count_of, AreTargets, Request}
use Rattle.at_board.specs.Knowledge.Agreement.{AgreesWithSeen}
use Rattle.at_board.specs.Knowledge.Parts.{SeesRequest, asking_on, own_part, with_asking, seen_as}
use Rattle.at_board.specs.declared.knowledge.Asking.{Asking}
use Rattle.at_board.specs.declared.knowledge.SeenRequest.{SeenRequest}
use Rattle.at_board.specs.declared.knowledge.Knowledge.{Knowledge}

-- all requests of a row
abbrev pub all_of : ℕ → ℕ → List Request → List SeenRequest
all_of a slot row = map (λ i. seen_as a slot i (request_at row i)) (range_with_len 0 (length row))

-- a load has told that a slot has so many announced requests
abbrev pub with_row : Asking → ℕ → ℕ → Asking
with_row w slot n = record w { rows = w.rows ++ record { slot = slot; count = n } ∷ [] }

-- a load of an announced word: the seat has then seen these requests, and at least as many publications as the `since` of each
pub record LoadsAnnounced (b : BookTerms) (before after : Knowledge) (a slot n : ℕ) : Type 0 where
  pub row : List Request
  pub same : after ≡ with_asking (record before { seen = after.seen; requests = before.requests ++ all_of a slot row }) a
      (with_row (asking_on (own_part before) a) slot n)
  pub counted : length row ≡ n
  pub room : n ≤ b.request_room
  pub since : All (λ r. r.since ≤ length after.seen) row
  pub targets : All (λ r. AreTargets b r.targets) row
  pub known : (number : ℕ) (r : Request) → SeesRequest before a slot number r → (number < n) × (request_at row number ≡ r)
  pub more : IsPrefix before.seen after.seen
  pub own : count_of before.first after.seen ≡ (own_part before).published
  pub history : IsHistory b after.seen
  pub agrees : AgreesWithSeen after
