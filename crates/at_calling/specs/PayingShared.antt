-- Payments from shared accounts that are made one step a turn.
use Rattle.std.specs.Prelude.{◌≡◌, ◌≢◌, ℕ, ◌+◌, ◌-◌, ◌*◌, ◌≤◌, ◌⊎◌, List, Option, None}
use Rattle.at_calling.specs.Prelude.{slots_of, BookTerms, account_of, TargetPair, Reply, places_max, Publication, SeatTerms, Knowledge, BoardStep, RECORD_WORDS, TotalSums, At, PaysInRound, shared_steps, decides_made, decides_on, OnReceipts, asking_steps, round_steps, snapshot_steps, first_load}
use Rattle.at_calling.specs.Starting.{EndsStart, FollowsStart, MakesStartStep, start_length_at, start_step_at}
use Rattle.at_calling.specs.Turning.{EndsTurn, FollowsTurn, MakesTurnStep, exchanges_at, help_length_at, help_step_at, publishes_at}
use Rattle.at_calling.specs.declared.share_stage.ShareStage.{ShareStage}
use Rattle.at_calling.specs.declared.share_stage.ShareStage.TheVariants.{Ended, Help, Start}
use Rattle.at_calling.specs.declared.turn_stage.TurnStage.{TurnStage}

-- a payment by the account that it pays from and its targets, by what the next turn goes on with, by how many turns were made, and by what its
-- seat knew and its totals had counted at the start and after the last turn
pub record PayingSharedTerms : Type 0 where
  pub account : ℕ
  pub targets : List TargetPair
  pub stage : ShareStage
  pub turns : ℕ
  pub start : Knowledge
  pub mark : Knowledge
  pub was : TotalSums
  pub totals : TotalSums

-- the most steps of a payment after its first snapshot, beside the loads of records: those of asking, and a turn of helping for each owner
abbrev pub settling_steps : BookTerms → ℕ → ℕ
settling_steps b a = asking_steps (slots_of (account_of b a)) + slots_of (account_of b a) * (snapshot_steps b.processes + round_steps b.processes)

-- the most steps of a payment from the account, beside the loads of records
abbrev pub share_steps : BookTerms → ℕ → ℕ
share_steps b a = shared_steps b.processes (slots_of (account_of b a))

-- the most turns of it, where so many records are loaded
abbrev pub share_turns_most : BookTerms → ℕ → ℕ → ℕ
share_turns_most b a records = share_steps b a + RECORD_WORDS * records

-- so many, unless the request is settled
abbrev pub unless_settled : ℕ → ShareStage → ℕ
unless_settled most (Start s) = most
unless_settled most (Help h u) = most
unless_settled most Ended = 0

-- the turns that are left at most: each record that the logs have room for is loaded once at most
abbrev pub share_turns_left : BookTerms → PayingSharedTerms → ℕ
share_turns_left b t = unless_settled (share_turns_most b t.account places_max + 1 - t.turns) t.stage

-- the turns that were made are few, where so many records are loaded
abbrev pub IsShareWithin : BookTerms → PayingSharedTerms → ℕ → Type 0
IsShareWithin b t records = t.turns ≤ share_turns_most b t.account records

-- just the step was made that came next: of the start, or of the turn of helping
abbrev pub MakesShareStep : BookTerms → List Publication → ShareStage → SeatTerms → SeatTerms → TotalSums → Type 0
MakesShareStep b seen (Start s) before after now = MakesStartStep b seen s.stage before after now
MakesShareStep b seen (Help h u) before after now = (next : TurnStage) × MakesTurnStep b seen u.stage next before after now
MakesShareStep b seen Ended before after now = ⊥

-- what comes after that: the start goes on, or it has ended, and a turn of helping comes next; this goes on, or it has ended, and the next one
-- comes, or nothing. Each begins with its look
abbrev pub FollowsShare : BookTerms → ShareStage → ShareStage → Type 0
FollowsShare b (Start s) (Start t) = FollowsStart b s.stage t.stage
FollowsShare b (Start s) (Help h u) = EndsStart b s × (help_step_at b u.stage ≡ first_load)
FollowsShare b (Start s) Ended = ⊥
FollowsShare b (Help h u) (Start t) = ⊥
FollowsShare b (Help h u) (Help i v) = FollowsTurn b u.stage v.stage ⊎ (EndsTurn b u.stage × (help_step_at b v.stage ≡ first_load))
FollowsShare b (Help h u) Ended = EndsTurn b u.stage
FollowsShare b Ended next = ⊥

-- one exchange is made in the first step of each round, and in no other
abbrev pub share_exchanges_at : ShareStage → ℕ
share_exchanges_at (Start s) = 0
share_exchanges_at (Help h u) = exchanges_at u.stage
share_exchanges_at Ended = 0

-- and one record is published in the last one
abbrev pub share_publishes_at : BookTerms → ShareStage → ℕ
share_publishes_at b (Start s) = 0
share_publishes_at b (Help h u) = publishes_at b u.stage
share_publishes_at b Ended = 0

-- the process whose length the next turn loads, if it loads one
abbrev pub share_length_at : ShareStage → Option ℕ
share_length_at (Start s) = start_length_at s.stage
share_length_at (Help h u) = help_length_at u.stage
share_length_at Ended = None

-- the step of that turn
abbrev pub share_step_at : BookTerms → ShareStage → Option BoardStep
share_step_at b (Start s) = start_step_at b s.stage
share_step_at b (Help h u) = help_step_at b u.stage
share_step_at b Ended = None

-- the exchanges that were made: none in the start
abbrev pub unless_starting : ℕ → ShareStage → ℕ
unless_starting made (Start s) = 0
unless_starting made (Help h u) = made
unless_starting made Ended = made

abbrev pub share_exchanges_made : PayingSharedTerms → ℕ
share_exchanges_made t = unless_starting (decides_made t.account t.start t.mark) t.stage

-- the receipt of each call with this payout says that it was decided in a round
abbrev pub AnswersInRound : BookTerms → Knowledge → Knowledge → ℕ → List TargetPair → Reply × At → Type 0
AnswersInRound b before after a targets answer = OnReceipts a targets answer (λ r. PaysInRound b before after a r.call r)

-- at most so many exchanges were made on the account as it has owners, and none elsewhere
pub record DecidesFew (b : BookTerms) (before after : Knowledge) (a : ℕ) : Type 0 where
  pub few : decides_made a before after ≤ slots_of (account_of b a)
  pub elsewhere : (c : ℕ) → c ≢ a → decides_on after c ≡ decides_on before c
