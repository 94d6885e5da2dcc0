-- What a process's own records and its requests say of their order.
use Rattle.std.specs.Prelude.{◌≡◌, ℕ, ◌<◌, ◌⊎◌, true, List, length, take}
use Rattle.at_log.specs.Prelude.{BookTerms, HasSlot, publication_at, request_at, is_own, prefix_of, is_settled, Publication, Request}

-- an own record of the process stands at this position
pub record IsOwnAt (process : ℕ) (list : List Publication) (m : ℕ) : Type 0 where
  pub within : m < length list
  pub process_is : (publication_at list m).process ≡ process
  pub own : is_own (publication_at list m).entry ≡ true

-- the process has asked for this in the rows of requests, by account and slot
pub record HasAskedFor (b : BookTerms) (process : ℕ) (rows : ℕ → ℕ → List Request) (a slot number : ℕ) : Type 0 where
  pub slot_in : HasSlot b process a slot
  pub within : number < length (rows a slot)

-- the requests are two
abbrev pub AreTwo : ℕ → ℕ → ℕ → ℕ → Type 0
AreTwo a number c other = ¬ ((a ≡ c) × (number ≡ other))

-- of an own record and a request one came first: the record stands before the request's `since`, or the request is settled at
-- the record's view. Of two requests one is settled at the other's `since`
pub record AreInOrder (b : BookTerms) (process : ℕ) (list : List Publication) (rows : ℕ → ℕ → List Request) : Type 0 where
  pub owns : (m a slot number : ℕ) → IsOwnAt process list m → HasAskedFor b process rows a slot number →
      (m < (request_at (rows a slot) number).since)
      ⊎ (is_settled a slot number (prefix_of (publication_at list m).view list) ≡ true)
  pub requests : (a slot number c place other : ℕ) → HasAskedFor b process rows a slot number → HasAskedFor b process rows c place other →
      AreTwo a number c other →
      (is_settled a slot number (take (request_at (rows c place) other).since list) ≡ true)
      ⊎ (is_settled c place other (take (request_at (rows a slot) number).since list) ≡ true)
