-- Looks that are made one load a turn: a snapshot, and then the records that it counts and the totals don't.
use Rattle.std.specs.Prelude.{◌≡◌, ℕ, ◌+◌, ◌-◌, ◌*◌, ◌<◌, ◌≤◌, List, [], sum, Option, None, Some}
use Rattle.at_machines.specs.Prelude.{BookTerms, places_max, Publication, stepped, SeatTerms, Knowledge, BoardStep, BoardWord, RECORD_WORDS, TotalSums, snapshot_steps}
use Rattle.at_machines.specs.CatchingUp.{FollowsLoad, LoadsNextWord, MayLoadLeft, catch_step, loads_left}
use Rattle.at_machines.specs.Snapping.{MakesLoad, MayFollow, length_in, nothing, step_in}
use Rattle.at_machines.specs.declared.look_stage.LookStage.{LookStage}
use Rattle.at_machines.specs.declared.look_stage.LookStage.TheVariants.{CatchUp, Snap}

-- a look by what its seat knew and its totals had counted at the start, by both after the last turn, by what the next turn goes on
-- with, and by how many turns were made
pub record LookingTerms : Type 0 where
  pub start : Knowledge
  pub mark : Knowledge
  pub was : TotalSums
  pub totals : TotalSums
  pub stage : LookStage
  pub turns : ℕ

-- the turns that are left at most: of a snapshot and of the loads of all records that the logs have room for, or of the loads that
-- the snapshot has left
abbrev pub look_turns_left : LookStage → ℕ
look_turns_left (Snap s) = s.left + RECORD_WORDS * places_max
look_turns_left (CatchUp c) = loads_left c

-- just the load was made that came next, where the seats of the caller had seen this. A word of a record, which the seat has seen, tells it
-- nothing new
abbrev pub MakesLookLoad : BookTerms → List Publication → LookStage → SeatTerms → SeatTerms → TotalSums → Type 0
MakesLookLoad b seen (Snap s) before after now = MakesLoad b seen s.next before after
MakesLookLoad b seen (CatchUp c) before after now = (after ≡ stepped before 1) × LoadsNextWord c now × MayLoadLeft b before.knows c

-- what comes after that, of n processes: the snapshot goes on, or has ended and the first word of a record comes next, or the loads go on
abbrev pub FollowsLook : ℕ → LookStage → LookStage → Type 0
FollowsLook n (Snap s) (Snap t) = MayFollow n s.next t.next
FollowsLook n (Snap s) (CatchUp d) = MayFollow n s.next nothing × (d.loaded ≡ 0) × (d.words ≡ [])
FollowsLook n (CatchUp c) (Snap t) = ⊥
FollowsLook n (CatchUp c) (CatchUp d) = FollowsLoad c d

-- that was its last load
abbrev pub EndsLook : ℕ → LookStage → Type 0
EndsLook n stage = (last : LookStage) × FollowsLook n stage last × (look_turns_left last ≡ 0)

-- the process whose length the next turn loads, if it loads one
abbrev pub length_at : LookStage → Option ℕ
length_at (Snap s) = length_in s.next
length_at (CatchUp c) = None

-- and the step of that turn
abbrev pub step_at : LookStage → Option BoardStep
step_at (Snap s) = step_in s.next
step_at (CatchUp c) = catch_step c

-- each look begins with the load of the length of process 0
abbrev pub first_load : Option BoardStep
first_load = Some (BoardStep.Load (BoardWord.Length 0))

-- so many turns are at most those of a snapshot, and of the loads of the records that are among so many and weren't counted before
abbrev pub IsWithin : ℕ → TotalSums → ℕ → ℕ → Type 0
IsWithin n was records turns = turns ≤ snapshot_steps n + RECORD_WORDS * (records - sum was.upto)

-- so many turns are fewer than so many, with the loads of so many records and of one record more
abbrev pub IsWithinOneMore : ℕ → ℕ → ℕ → Type 0
IsWithinOneMore most records turns = turns < most + RECORD_WORDS * (records + 1)
