-- Turns of helping that are made one step a turn.
use Rattle.std.specs.Prelude.{◌≡◌, ◌≢◌, ℕ, ◌+◌, ◌-◌, ◌*◌, ◌≤◌, List, Option, None}
use Rattle.at_calling.specs.Prelude.{slots_of, BookTerms, account_of, IsPrefix, rounds, Publication, own_part, SeatTerms, Knowledge, BoardStep, RECORD_WORDS, TotalSums, IsPlaced, asks_in, Receipt, HelpAnswers, OnSettled, OnSettledCalls, HelpingTerms, IsHelping, decides_on, heard_on, StandsAfter, StandsInRound, round_steps, HelpTurn, snapshot_steps, DecidingTerms, MakesRoundStep, exchange, exchanges_in, publishes_in, step_in_round, EndsLook, FollowsLook, MakesLookLoad, length_at, look_turns_left, step_at}
use Rattle.at_calling.specs.declared.turn_stage.TurnStage.{TurnStage}
use Rattle.at_calling.specs.declared.turn_stage.TurnStage.TheVariants.{Decide, Found, Look}

-- a turn of helping by the request that waits, by what the next turn goes on with, by how many turns its look had once it has ended, and by
-- what its seat knew and its totals had counted at the start and after the last turn
pub record TurningTerms : Type 0 where
  pub helping : HelpingTerms
  pub stage : TurnStage
  pub looked : ℕ
  pub start : Knowledge
  pub mark : Knowledge
  pub was : TotalSums
  pub totals : TotalSums

-- the turns that were made
abbrev pub help_turns_in : ℕ → TurnStage → ℕ
help_turns_in looked (Look l) = l.turns
help_turns_in looked (Decide d) = looked + (round_steps d.start.book.processes - d.left)
help_turns_in looked Found = looked

abbrev pub help_turns_made : TurningTerms → ℕ
help_turns_made t = help_turns_in t.looked t.stage

-- the turns that are left at most, of n processes
abbrev pub help_turns_left : ℕ → TurnStage → ℕ
help_turns_left n (Look l) = look_turns_left l.stage + round_steps n
help_turns_left n (Decide d) = d.left
help_turns_left n Found = 0

-- just the step was made that came next: of the look, or of the round, which goes on
abbrev pub MakesTurnStep : BookTerms → List Publication → TurnStage → TurnStage → SeatTerms → SeatTerms → TotalSums → Type 0
MakesTurnStep b seen (Look l) next before after now = MakesLookLoad b seen l.stage before after now
MakesTurnStep b seen (Decide d) (Decide e) before after now = (d.mark ≡ before.knows) × MakesRoundStep b d after.knows e.next
MakesTurnStep b seen (Decide d) (Look l) before after now = ⊥
MakesTurnStep b seen (Decide d) Found before after now = ⊥
MakesTurnStep b seen Found next before after now = ⊥

-- what comes after that: the look goes on, or it has ended, and the request is found settled, or the exchange of a round comes next; the round
-- goes on
abbrev pub FollowsTurn : BookTerms → TurnStage → TurnStage → Type 0
FollowsTurn b (Look l) (Look m) = FollowsLook b.processes l.stage m.stage
FollowsTurn b (Look l) (Decide d) = EndsLook b.processes l.stage × (d.next ≡ exchange)
FollowsTurn b (Look l) Found = EndsLook b.processes l.stage
FollowsTurn b (Decide d) next = (e : DecidingTerms) × (v : Knowledge) × (next ≡ Decide e) × MakesRoundStep b d v e.next
FollowsTurn b Found next = ⊥

-- that was its last step
abbrev pub EndsTurn : BookTerms → TurnStage → Type 0
EndsTurn b stage = (last : TurnStage) × FollowsTurn b stage last × (help_turns_left b.processes last ≡ 0)

-- one exchange is made in the round's first step, and in no other
abbrev pub exchanges_at : TurnStage → ℕ
exchanges_at (Look l) = 0
exchanges_at (Decide d) = exchanges_in d.next
exchanges_at Found = 0

-- one record is published in the round's last step, and in no other
abbrev pub publishes_at : BookTerms → TurnStage → ℕ
publishes_at b (Look l) = 0
publishes_at b (Decide d) = publishes_in b d.next
publishes_at b Found = 0

-- the process whose length the next turn loads, if it loads one
abbrev pub help_length_at : TurnStage → Option ℕ
help_length_at (Look l) = length_at l.stage
help_length_at (Decide d) = None
help_length_at Found = None

-- the step of that turn
abbrev pub help_step_at : BookTerms → TurnStage → Option BoardStep
help_step_at b (Look l) = step_at l.stage
help_step_at b (Decide d) = step_in_round b d d.next
help_step_at b Found = None

-- the most steps of a turn of helping, beside the loads of records: those of a snapshot, and of so many rounds
abbrev pub help_steps : ℕ → ℕ → ℕ
help_steps n decided = snapshot_steps n + round_steps n * decided

-- so many turns are at most those, and those of the loads of so many records
abbrev pub IsHelpWithin : ℕ → ℕ → ℕ → ℕ → Type 0
IsHelpWithin n decided records turns = turns ≤ help_steps n decided + RECORD_WORDS * records

-- the answer of a turn of helping whose first step came after what was known before. The receipts of a settled request are right, and
-- stand at or after the request's `since`
pub record IsHelpOf (b : BookTerms) (before after : Knowledge) (h : HelpingTerms) (answer : HelpTurn) : Type 0 where
  pub answers : HelpAnswers b before after h answer
  pub in_round : OnSettled answer StandsInRound
  pub placed : OnSettledCalls h answer (λ r. (earlier : List Receipt) → asks_in h.account earlier ≡ h.own.number
      → IsPlaced b after.first after.seen earlier r)
  pub after_start : OnSettledCalls h answer (StandsAfter h.own.since after)

-- another request was decided: the helping waits still, one round more at least is published, and of the rounds that may be decided before
-- the request one is left at least
pub record WaitsOn (b : BookTerms) (before after : Knowledge) (h : HelpingTerms) : Type 0 where
  pub helping : IsHelping b after h
  pub decides_more : decides_on after h.account ≡ decides_on before h.account + 1
  pub rounds_more : rounds h.account before.seen + 1 ≤ rounds h.account after.seen
  pub overtaken : rounds h.account before.seen + 2 ≤ heard_on before h.account + slots_of (account_of b h.account)

-- what a turn of helping on the account leaves of what its seat knows: at most one exchange was made there, and none elsewhere
pub record LeavesSeat (before after : Knowledge) (a : ℕ) : Type 0 where
  pub heard : heard_on after a ≡ heard_on before a
  pub free : (own_part after).held ≡ None
  pub begins : IsPrefix before.seen after.seen
  pub process : after.first ≡ before.first
  pub decides_few : decides_on before a ≤ decides_on after a
  pub decides_at_most : decides_on after a ≤ decides_on before a + 1
  pub decides_elsewhere : (c : ℕ) → c ≢ a → decides_on after c ≡ decides_on before c
  pub published : (own_part before).published ≤ (own_part after).published
