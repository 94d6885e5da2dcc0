-- Payments from shared accounts that are started one step a turn.
use Rattle.std.specs.Prelude.{◌≡◌, ℕ, ◌+◌, ◌-◌, ◌*◌, ◌<◌, ◌≤◌, List, length, Option, None}
use Rattle.at_calling.specs.Prelude.{slots_of, BookTerms, account_of, TargetPair, IsPrefix, Publication, asking_on, own_part, SeatTerms, Knowledge, BoardStep, RECORD_WORDS, REQUEST_WORDS, TotalSums, HelpingTerms, HasStarted, IsHelping, decides_on, asking_steps, snapshot_steps, AnnouncesAsked, StoresNextRequestWord, ask_step, CollectingRowsTerms, MakesNextLoad, rows_after, NextRowLoad, row_step, announced_word, request_word, nothing, EndsLook, FollowsLook, MakesLookLoad, length_at, look_turns_left, step_at}
use Rattle.at_calling.specs.declared.start_stage.StartStage.{StartStage}
use Rattle.at_calling.specs.declared.start_stage.StartStage.TheVariants.{Ask, Collect, Look}

-- a start by the account that it pays from and its targets, by what the next turn goes on with, by how many turns its look had once it
-- has ended, and by what its seat knew and its totals had counted at the start and after the last turn
pub record StartingTerms : Type 0 where
  pub account : ℕ
  pub targets : List TargetPair
  pub stage : StartStage
  pub looked : ℕ
  pub start : Knowledge
  pub mark : Knowledge
  pub was : TotalSums
  pub totals : TotalSums

-- the turns that were made
abbrev pub start_turns_in : ℕ → StartStage → ℕ
start_turns_in looked (Look l) = l.turns
start_turns_in looked (Ask a) = looked + a.stored
start_turns_in looked (Collect c) = looked + (REQUEST_WORDS + 1) + c.made

abbrev pub start_turns_made : StartingTerms → ℕ
start_turns_made t = start_turns_in t.looked t.stage

-- so many, unless no load of the rows comes next
abbrev pub unless_ended : ℕ → NextRowLoad → ℕ
unless_ended most announced_word = most
unless_ended most (request_word number word) = most
unless_ended most nothing = 0

-- the turns that are left at most in a stage, of the steps that asking and the rows take at most
abbrev pub start_turns_after : ℕ → StartStage → ℕ
start_turns_after most (Look l) = look_turns_left l.stage + most + 1
start_turns_after most (Ask a) = most + 1 - a.stored
start_turns_after most (Collect c) = unless_ended (most - (REQUEST_WORDS + c.made)) c.next

-- the steps that asking and the rows of its account take at most
abbrev pub asking_steps_of : BookTerms → StartingTerms → ℕ
asking_steps_of b t = asking_steps (slots_of (account_of b t.account))

abbrev pub start_turns_left : BookTerms → StartingTerms → ℕ
start_turns_left b t = start_turns_after (asking_steps_of b t) t.stage

-- the most steps of a start, beside the loads of records: those of a snapshot, of asking and of the rows
abbrev pub start_steps : BookTerms → StartingTerms → ℕ
start_steps b t = snapshot_steps b.processes + asking_steps_of b t

-- the turns that were made are at most those, and those of the loads of so many records
abbrev pub IsStartWithin : BookTerms → StartingTerms → ℕ → Type 0
IsStartWithin b t records = start_turns_made t ≤ start_steps b t + RECORD_WORDS * records

-- nothing was published meanwhile, and nothing decided on the account
pub record HasSameCounts (before after : Knowledge) (a : ℕ) : Type 0 where
  pub published : (own_part after).published ≡ (own_part before).published
  pub decides : decides_on after a ≡ decides_on before a

-- just the load of a row was made that came next
abbrev pub MakesRowsLoad : BookTerms → CollectingRowsTerms → Knowledge → Type 0
MakesRowsLoad b c v = (slot : ℕ) × (next : NextRowLoad) × MakesNextLoad b c (rows_after c v slot next)

-- just the step was made that came next: of the look, of asking, or of the rows, by what the seat knew before it
abbrev pub MakesStartStep : BookTerms → List Publication → StartStage → SeatTerms → SeatTerms → TotalSums → Type 0
MakesStartStep b seen (Look l) before after now = MakesLookLoad b seen l.stage before after now
MakesStartStep b seen (Ask a) before after now =
    (a.mark ≡ before.knows) × (a.stored ≤ REQUEST_WORDS)
    × (a.stored < REQUEST_WORDS → StoresNextRequestWord b a after.knows)
    × (a.stored ≡ REQUEST_WORDS → AnnouncesAsked b a after.knows)
MakesStartStep b seen (Collect c) before after now = (c.mark ≡ before.knows) × MakesRowsLoad b c after.knows

-- what comes after that: the look goes on, or it has ended, and the first store of the request comes next; the stores go on, or with the
-- announcement the first load of the rows comes next; these go on
abbrev pub FollowsStart : BookTerms → StartStage → StartStage → Type 0
FollowsStart b (Look l) (Look m) = FollowsLook b.processes l.stage m.stage
FollowsStart b (Look l) (Ask a) = EndsLook b.processes l.stage × (a.stored ≡ 0)
FollowsStart b (Look l) (Collect c) = ⊥
FollowsStart b (Ask a) (Look m) = ⊥
FollowsStart b (Ask a) (Ask c) = c.stored ≡ a.stored + 1
FollowsStart b (Ask a) (Collect c) = (a.stored ≡ REQUEST_WORDS) × (c.slot ≡ 0) × (c.next ≡ announced_word)
FollowsStart b (Collect c) next = (d : CollectingRowsTerms) × (next ≡ Collect d) × MakesNextLoad b c d

-- that was its last step
abbrev pub EndsStart : BookTerms → StartingTerms → Type 0
EndsStart b t = (last : StartingTerms) × (last.account ≡ t.account) × FollowsStart b t.stage last.stage × (start_turns_left b last ≡ 0)

-- the process whose length the next turn loads, if it loads one
abbrev pub start_length_at : StartStage → Option ℕ
start_length_at (Look l) = length_at l.stage
start_length_at (Ask a) = None
start_length_at (Collect c) = None

-- the step of that turn
abbrev pub start_step_at : BookTerms → StartStage → Option BoardStep
start_step_at b (Look l) = step_at l.stage
start_step_at b (Ask a) = ask_step b a
start_step_at b (Collect c) = row_step c.account c.slot c.next

-- the request that waits for these targets on the account, whose first turn came after what was known before. It has published,
-- held and decided nothing
pub record IsStartOf (b : BookTerms) (before after : Knowledge) (a : ℕ) (targets : List TargetPair) (h : HelpingTerms) : Type 0 where
  pub account_is : h.account ≡ a
  pub targets_are : h.own.targets ≡ targets
  pub started : HasStarted b before after h
  pub helping : IsHelping b after h
  pub number : h.own.number ≡ length (asking_on (own_part before) a).announced
  pub since : length before.seen ≤ h.own.since
  pub begins : IsPrefix before.seen after.seen
  pub process : after.first ≡ before.first
  pub decides : (c : ℕ) → decides_on after c ≡ decides_on before c
  pub published : (own_part after).published ≡ (own_part before).published
