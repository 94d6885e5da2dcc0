-- The law of overtaking: how often the requests of an account's other owners may be decided before an owner's last one, once
-- that is announced.
use Rattle.std.specs.Prelude.{◌≡◌, ◌≢◌, ℕ, ◌+◌, ◌<◌, ◌≤◌, List, length, take, Contains}
use Rattle.at_history.specs.Prelude.{Decision}
use Rattle.at_history.specs.BoardState.{BoardState, decision_at, request_at}
use Rattle.at_history.specs.Rounds.{rounds}
use Rattle.at_history.specs.declared.publication.Publication.{Publication}
use Rattle.at_history.specs.declared.request.Request.{Request}
use Rattle.at_history.specs.declared.request.SeenRow.{SeenRow}

-- the number is that of a row's last request
abbrev pub IsLastRequest : List Request → ℕ → Type 0
IsLastRequest row number = number + 1 ≡ length row

-- the first so many decisions name no such request
abbrev pub IsUndecided : List Decision → ℕ → ℕ → ℕ → Type 0
IsUndecided decisions slot number upto =
    (r : ℕ) → r < upto → (decision_at decisions r).slot ≡ slot → (decision_at decisions r).number ≢ number

-- how many rounds of an account stood in the list at the `since` of a request of a row
abbrev pub tag : List Publication → ℕ → List Request → ℕ → ℕ
tag list a row number = rounds a (take (request_at row number).since list)

-- a round overtakes a request: it is decided, its number is at least that of the rounds heard when the request was announced, and
-- no decision up to it names the request
pub record Overtakes (decisions : List Decision) (heard slot number round : ℕ) : Type 0 where
  pub heard_before : heard ≤ round
  pub decided : round < length decisions
  pub undecided : IsUndecided decisions slot number (round + 1)

-- the rounds that overtake a request name other slots, no two of them the same
pub record AreOvertakers (decisions : List Decision) (heard slot number : ℕ) : Type 0 where
  pub others : (r : ℕ) → Overtakes decisions heard slot number r → (decision_at decisions r).slot ≢ slot
  pub once : (r q : ℕ) → Overtakes decisions heard slot number r → Overtakes decisions heard slot number q →
      (decision_at decisions r).slot ≡ (decision_at decisions q).slot → r ≡ q

-- some announced word of the slot that an owner has loaded since its own last request counted no request of this number
abbrev pub HasLoadedBefore : List SeenRow → ℕ → ℕ → Type 0
HasLoadedBefore seen_rows slot number = (n : ℕ) × Contains seen_rows (record { slot = slot; count = n }) × (n ≤ number)

-- the law of the last request of each slot. No more rounds stood at its `since` than were heard when it was announced. The
-- rounds that overtake it name different slots, none of them its own. While it is undecided, take an owner that has missed it: at
-- the `since` of that owner's last request no more rounds stood than were heard here
pub record Overtaking (s : BoardState) : Type 0 where
  pub tagged : (a slot number : ℕ) → IsLastRequest (s.rows a slot) number →
      tag s.published a (s.rows a slot) number ≤ s.heard a slot
  pub overtakers : (a slot number : ℕ) → IsLastRequest (s.rows a slot) number →
      AreOvertakers (s.cells a) (s.heard a slot) slot number
  pub missed : (a slot number other last : ℕ) → IsLastRequest (s.rows a slot) number →
      IsUndecided (s.cells a) slot number (length (s.cells a)) → IsLastRequest (s.rows a other) last →
      HasLoadedBefore (s.seen_rows a other) slot number → tag s.published a (s.rows a other) last ≤ s.heard a slot
