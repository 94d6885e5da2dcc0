-- Announcing the seat's next request on an account.
use Rattle.std.specs.Prelude.{◌≡◌, ℕ, ◌++◌, List, [], ◌∷◌, length, replicate, ◌+◌, ◌≤◌, true, take}
use Rattle.at_board.specs.Prelude.{BookTerms, IsHistory, IsPrefix, count_of, rounds, is_settled, AreTargets, Request}
use Rattle.at_board.specs.Knowledge.Agreement.{AgreesWithSeen}
use Rattle.at_board.specs.Knowledge.Knows.{SeesAll}
use Rattle.at_board.specs.Knowledge.Parts.{asking_on, own_part, with_asking, seen_as}
use Rattle.at_board.specs.Steps.StoreRequestWord.{MayStoreRequest}
use Rattle.at_board.specs.Words.Packed.{request_words}
use Rattle.at_board.specs.declared.knowledge.Asking.{Asking}
use Rattle.at_board.specs.declared.knowledge.Knowledge.{Knowledge}
use Rattle.at_board.specs.declared.knowledge.Loads.{Loads}
use Rattle.at_board.specs.declared.words.TheConstants.{REQUEST_WORDS}

-- one more request is announced, so many rounds were heard, and these are the loads of lengths up to here; nothing of the next
-- request is stored, and nothing was loaded since then
abbrev pub with_request : Asking → Request → ℕ → List Loads → Asking
with_request w r heard loads =
    record w { announced = w.announced ++ r ∷ []; stored = replicate REQUEST_WORDS 0; heard = heard; loads = loads; rows = []; loaded = [] }

-- an announcing step: some sound state has published just what the seat has then seen, and its row of the seat's process has the
-- request at the end. What was heard are the rounds of the account in what the seat has then seen
pub record Announces (b : BookTerms) (before after : Knowledge) (a slot : ℕ) (r : Request) : Type 0 where
  pub more : IsPrefix before.seen after.seen
  pub all : SeesAll b after
  pub row : all.state.rows a slot ≡ (asking_on (own_part before) a).announced ++ r ∷ []
  pub own : count_of before.first after.seen ≡ (own_part before).published
  pub history : IsHistory b after.seen
  pub agrees : AgreesWithSeen after
  pub same : let w : Asking = asking_on (own_part before) a in
      after ≡ with_asking (record before { seen = after.seen; requests = before.requests ++ seen_as a slot (length w.announced) r ∷ [] }) a
      (with_request w r (rounds a after.seen) (own_part before).loads)

-- the seat may announce this request: its words are stored, and it keeps the laws of requests at the cut of its `since`
pub record MayAnnounce (b : BookTerms) (v : Knowledge) (a slot : ℕ) (r : Request) : Type 0 where
  pub asks : MayStoreRequest b v a slot
  pub stored : (asking_on (own_part v) a).stored ≡ request_words r
  pub targets : AreTargets b r.targets
  pub since : r.since ≤ length v.seen
  pub follows : (before : ℕ) → before + 1 ≡ length (asking_on (own_part v) a).announced →
      is_settled a slot before (take r.since v.seen) ≡ true
