-- Which requests on an account a process may propose, by what it has loaded since it last announced one there.
use Rattle.std.specs.Prelude.{◌≡◌, ◌≢◌, ℕ, ◌+◌, ◌<◌, ◌≤◌, ◌⊎◌, false, List, Contains}
use Rattle.at_board.specs.Prelude.{slots_of, BookTerms, HasSlot, account_of, request_at, IsLastRequest, is_settled, Publication, Request}
use Rattle.at_board.specs.Knowledge.Parts.{HasLoadedRequest, asking_on, own_part, seen_as}
use Rattle.at_board.specs.declared.knowledge.Asking.{Asking}
use Rattle.at_board.specs.declared.knowledge.Knowledge.{Knowledge}
use Rattle.at_board.specs.declared.knowledge.SeenRequest.{SeenRequest}

-- some load of the slot's announced word is noted: where it counted a request, all words of the last one that it counted were
-- loaded too
abbrev pub HasLoadedRow : Asking → ℕ → ℕ → Type 0
HasLoadedRow w a slot = (n : ℕ) × Contains w.rows (record { slot = slot; count = n })
    × ((number : ℕ) → number + 1 ≡ n → (r : Request) × HasLoadedRequest w (seen_as a slot number r))

-- the seat's process has this slot, and of each other owner it has loaded, since its own last request there, the announced word
-- and the last request that this counted
pub record HasLoadedRows (b : BookTerms) (v : Knowledge) (a slot : ℕ) : Type 0 where
  pub slot_in : HasSlot b v.first a slot
  pub rows : (other : ℕ) → other < slots_of (account_of b a) → other ≢ slot → HasLoadedRow (asking_on (own_part v) a) a other

-- the request is the process's own last one on the account, or one of which it has loaded all words since it announced that
abbrev pub IsCandidate : Asking → ℕ → ℕ → SeenRequest → Type 0
IsCandidate w a slot x =
    ((number : ℕ) × IsLastRequest w.announced number × (x ≡ seen_as a slot number (request_at w.announced number))) ⊎ HasLoadedRequest w x

-- a request is older than another, or as old and of no larger slot
abbrev pub ComesFirst : ℕ → Request → ℕ → Request → Type 0
ComesFirst slot r other q = (r.since < q.since) ⊎ ((r.since ≡ q.since) × (slot ≤ other))

-- of the candidates that are unsettled in a list this one comes first. It has the least `since`, and then the least slot
pub record IsOldest (w : Asking) (own : ℕ) (list : List Publication) (a slot number : ℕ) (r : Request) : Type 0 where
  pub candidate : IsCandidate w a own (seen_as a slot number r)
  pub unsettled : is_settled a slot number list ≡ false
  pub first : (other n : ℕ) (q : Request) → IsCandidate w a own (seen_as a other n q) → is_settled a other n list ≡ false →
      ComesFirst slot r other q
