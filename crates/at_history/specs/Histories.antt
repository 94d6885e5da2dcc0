-- What a list of publications shows by itself, without the state that it was part of.
use Rattle.std.specs.Prelude.{◌≡◌, ℕ, ◌<◌, ◌≤◌, ◌↔◌, true, List, length, take}
use Rattle.at_history.specs.Prelude.{InRange, Decision, rounds_room, slots_of, BookTerms, account_of, log_room_of, TargetPair, amount_of}
use Rattle.at_history.specs.Balances.{IsCovered}
use Rattle.at_history.specs.BoardState.{publication_at}
use Rattle.at_history.specs.Cuts.{places_max, prefix_of}
use Rattle.at_history.specs.Moves.{AreRuns}
use Rattle.at_history.specs.Publications.{count_of}
use Rattle.at_history.specs.Rounds.{named, rounds, owns_of}
use Rattle.at_history.specs.Sound.{AreTargets, HasView, IsSoundOwn, IsSoundRound}
use Rattle.at_history.specs.declared.publication.Entry.{Entry}
use Rattle.at_history.specs.declared.publication.Entry.TheVariants.{Own, Round}
use Rattle.at_history.specs.declared.publication.Publication.{Publication}

-- a round's decision: at its place stand exactly the rounds before it, among them one for each earlier request of its slot,
-- and it succeeds exactly where the balance there covers its targets
pub record IsShownRound (b : BookTerms) (list : List Publication) (account round : ℕ) (d : Decision) (targets : List TargetPair) : Type 0 where
  pub room : round < rounds_room b.request_room (account_of b account)
  pub number_in : d.number < b.request_room
  pub place : d.place ≤ length list
  pub next : rounds account (take d.place list) ≡ round
  pub number : named account d.slot (take d.place list) ≡ d.number
  pub ok : (d.ok ≡ true) ↔ IsCovered b (take d.place list) account (amount_of targets)

-- the same of an entry, if it is a round's
abbrev pub IsShownDecision : BookTerms → List Publication → Entry → Type 0
IsShownDecision b list (Own from targets) = Unit {0}
IsShownDecision b list (Round account round decision targets) = IsShownRound b list account round decision targets

-- two entries of one round say the same of it
abbrev pub AgreeOnRound : Entry → Entry → Type 0
AgreeOnRound (Round account round decision targets) (Round account' round' decision' targets') =
    account ≡ account' → round ≡ round' → (decision ≡ decision') × (targets ≡ targets')
AgreeOnRound (Own from targets) other = Unit {0}
AgreeOnRound (Round account round decision targets) (Own from targets') = Unit {0}

-- what a list shows of an entry: an own record was covered, and a round's was the next one of its account
abbrev pub IsShownEntry : BookTerms → ℕ → List Publication → Entry → Type 0
IsShownEntry b process prefix (Own from targets) = IsSoundOwn b process prefix from targets
IsShownEntry b process prefix (Round account round decision targets) =
    IsSoundRound b process prefix account round × AreTargets b targets × InRange decision
    × (decision.slot < slots_of (account_of b account))

-- what holds of the list that a seat or a note has seen. Each view is a cut of what stands before it and counts all earlier records of its
-- process; own records are covered at their views; a round's record is of the next round at its view; two records of one round say the same;
-- no process has more records than its log has room for, nor more own ones than its own room; and each prefix is a run
pub record IsHistory (b : BookTerms) (list : List Publication) : Type 0 where
  pub views : (m : ℕ) → m < length list → HasView b (take m list) (publication_at list m)
  pub entries : (m : ℕ) → m < length list → let x : Publication = publication_at list m in
      IsShownEntry b x.process (prefix_of x.view list) x.entry
  pub decisions : (m : ℕ) → m < length list → IsShownDecision b list (publication_at list m).entry
  pub agree : (m k : ℕ) → m < length list → k < length list → AgreeOnRound (publication_at list m).entry (publication_at list k).entry
  pub own_room : (p : ℕ) → owns_of p list ≤ b.own_room
  pub room : (p : ℕ) → p < b.processes → count_of p list ≤ log_room_of b p
  pub few : length list ≤ places_max
  pub runs : AreRuns b list
