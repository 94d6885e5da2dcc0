-- A sound state: the laws that hold between any two steps of any threads.
use Rattle.std.specs.Prelude.{◌≡◌, ℕ, ◌+◌, ◌<◌, ◌≤◌, ◌↔◌, ◌⊎◌, ◌==◌, ◌&&◌, true, List, length, take, slice_index, count_by, Some}
use Rattle.at_history.specs.Prelude.{list_any, InRange, Decision, is_shared, is_single, rounds_room, slots_of, BookTerms, account_of, is_owner, AreTargetsOn, TargetPair, amount_of}
use Rattle.at_history.specs.Balances.{IsCovered}
use Rattle.at_history.specs.BoardState.{BoardState, decision_at, publication_at, request_at}
use Rattle.at_history.specs.Entries.{is_round}
use Rattle.at_history.specs.Cuts.{IsCut, prefix_of, place}
use Rattle.at_history.specs.Publications.{count_of}
use Rattle.at_history.specs.Rounds.{is_settled, owns_of, rounds}
use Rattle.at_history.specs.declared.cell.Cell.{Cell}
use Rattle.at_history.specs.declared.publication.Entry.{Entry}
use Rattle.at_history.specs.declared.publication.Entry.TheVariants.{Own, Round}
use Rattle.at_history.specs.declared.publication.Publication.{Publication}
use Rattle.at_history.specs.declared.request.Request.{Request}

-- one to four targets, each of them an account
pub record AreTargets (b : BookTerms) (targets : List TargetPair) : Type 0 where
  pub some : 1 ≤ length targets
  pub few : length targets ≤ 4
  pub accounts : AreTargetsOn (length b.accounts) targets

-- a publication after those before it: its view is a cut of them, and counts all of them that its own process published
pub record HasView (b : BookTerms) (before : List Publication) (x : Publication) : Type 0 where
  pub process : x.process < b.processes
  pub cut : IsCut b.processes x.view before
  pub own : slice_index x.view x.process ≡ count_of x.process before

-- an own record of a process at the prefix of its view: its source is the process's alone and covers it
pub record IsSoundOwn (b : BookTerms) (process : ℕ) (prefix : List Publication) (from : ℕ) (targets : List TargetPair) : Type 0 where
  pub source_in : from < length b.accounts
  pub single : is_single (account_of b from) ≡ true
  pub owner : is_owner b process from ≡ true
  pub targets_in : AreTargets b targets
  pub covered : IsCovered b prefix from (amount_of targets)

-- a round's record of a process at the prefix of its view: the next round there of an account that the process shares
pub record IsSoundRound (b : BookTerms) (process : ℕ) (prefix : List Publication) (account round : ℕ) : Type 0 where
  pub account_in : account < length b.accounts
  pub shared : is_shared (account_of b account) ≡ true
  pub owner : is_owner b process account ≡ true
  pub next : rounds account prefix ≡ round

-- the record says what the board has decided, of the request that the decision names
pub record IsDecidedSo (s : BoardState) (account round : ℕ) (d : Decision) (targets : List TargetPair) : Type 0 where
  pub decided : round < length (s.cells account)
  pub decision : decision_at (s.cells account) round ≡ d
  pub same_targets : (request_at (s.rows account d.slot) d.number).targets ≡ targets

-- the laws of an entry, by its kind
abbrev pub IsSoundEntry : BookTerms → BoardState → ℕ → List Publication → Entry → Type 0
IsSoundEntry b s process prefix (Own from targets) = IsSoundOwn b process prefix from targets
IsSoundEntry b s process prefix (Round account round decision targets) =
    IsSoundRound b process prefix account round × IsDecidedSo s account round decision targets

-- a decision of a round: at its place exactly the rounds before it stand, the request that it names is announced with a
-- `since` of at most that place, and it says whether the balance there covers that request
pub record IsSoundDecision (b : BookTerms) (s : BoardState) (account round : ℕ) (d : Decision) : Type 0 where
  pub range : InRange d
  pub room : round < rounds_room b.request_room (account_of b account)
  pub slot_in : d.slot < slots_of (account_of b account)
  pub place : d.place ≤ length s.published
  pub next : rounds account (take d.place s.published) ≡ round
  pub announced : d.number < length (s.rows account d.slot)
  pub since : (request_at (s.rows account d.slot) d.number).since ≤ d.place
  pub ok : (d.ok ≡ true) ↔ IsCovered b (take d.place s.published) account (amount_of (request_at (s.rows account d.slot) d.number).targets)

-- a request of a row: at its `since` the one before it was settled, and no more rounds stood there than are decided
pub record IsSoundRequest (b : BookTerms) (s : BoardState) (account slot number : ℕ) (r : Request) : Type 0 where
  pub slot_in : slot < slots_of (account_of b account)
  pub targets : AreTargets b r.targets
  pub since : r.since ≤ length s.published
  pub follows : (before : ℕ) → before + 1 ≡ number → is_settled account slot before (take r.since s.published) ≡ true
  pub rounds : rounds account (take r.since s.published) ≤ length (s.cells account)

-- the record of the round with the view from which it was proposed stands in the list
abbrev pub IsPublished : ℕ → ℕ → ℕ → List Publication → Type 0
IsPublished account round at list = list_any (λ x. is_round account round x.entry && (place x.view == at)) list ≡ true

-- some seat holds the cell
abbrev pub IsHeld : BookTerms → BoardState → Cell → Type 0
IsHeld b s c = (p : ℕ) × (p < b.processes) × (s.held p ≡ Some c)

-- the laws of a board: of its publications, of own records and their number, of its decisions, of its requests and of its held cells
pub record Sound (b : BookTerms) (s : BoardState) : Type 0 where
  pub views : (m : ℕ) → m < length s.published → HasView b (take m s.published) (publication_at s.published m)
  pub entries : (m : ℕ) → m < length s.published → let x : Publication = publication_at s.published m in
      IsSoundEntry b s x.process (prefix_of x.view s.published) x.entry
  pub own_room : (p : ℕ) → owns_of p s.published ≤ b.own_room
  pub decisions : (a r : ℕ) → r < length (s.cells a) → IsSoundDecision b s a r (decision_at (s.cells a) r)
  pub numbers : (a r : ℕ) → r < length (s.cells a) → let d : Decision = decision_at (s.cells a) r in
      count_by (λ e. e.slot == d.slot) (take r (s.cells a)) ≡ d.number
  pub row_room : (a slot : ℕ) → length (s.rows a slot) ≤ b.request_room
  pub requests : (a slot i : ℕ) → i < length (s.rows a slot) → IsSoundRequest b s a slot i (request_at (s.rows a slot) i)
  pub published : (a r : ℕ) → r < length (s.cells a) →
      IsPublished a r (decision_at (s.cells a) r).place s.published ⊎ IsHeld b s (record { account = a; round = r })
  pub one_holder : (p q : ℕ) (c : Cell) → s.held p ≡ Some c → s.held q ≡ Some c → p ≡ q
  pub held_decided : (p : ℕ) (c : Cell) → s.held p ≡ Some c → c.round < length (s.cells c.account)
