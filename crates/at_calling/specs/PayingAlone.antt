-- Payments from single accounts that are made one step a turn.
use Rattle.std.specs.Prelude.{◌≡◌, ℕ, ◌+◌, ◌-◌, ◌*◌, ◌<◌, ◌≤◌, List, Option, None}
use Rattle.at_calling.specs.Prelude.{BookTerms, TargetPair, Reply, Balance, Done, Full, NotOwner, Publication, asking_on, own_part, SeatTerms, Publishes, record_width, Knowledge, BoardStep, RECORD_WORDS, TotalSums, At, PaysAlone, single_steps, OnReceipts, AppendingTerms, StoresNextWord, append_step, publication_of, published_after, EndsLook, FollowsLook, MakesLookLoad, length_at, look_turns_left, step_at}
use Rattle.at_calling.specs.declared.pay_stage.PayStage.{PayStage}
use Rattle.at_calling.specs.declared.pay_stage.PayStage.TheVariants.{Append, Look, Short}

-- a payment by its source and its targets, by what the next turn goes on with, by how many turns its look had once it has ended,
-- and by what its seat knew and its totals had counted at the start and after the last turn
pub record PayingAloneTerms : Type 0 where
  pub from : ℕ
  pub targets : List TargetPair
  pub stage : PayStage
  pub looked : ℕ
  pub start : Knowledge
  pub mark : Knowledge
  pub was : TotalSums
  pub totals : TotalSums

-- the turns that were made
abbrev pub turns_in : ℕ → PayStage → ℕ
turns_in looked (Look l) = l.turns
turns_in looked (Append a) = looked + a.stored
turns_in looked Short = looked

abbrev pub turns_made : PayingAloneTerms → ℕ
turns_made t = turns_in t.looked t.stage

-- the turns that are left at most, of a record with so many words
abbrev pub pay_turns_left : ℕ → PayStage → ℕ
pay_turns_left width (Look l) = look_turns_left l.stage + width + 1
pay_turns_left width (Append a) = width + 1 - a.stored
pay_turns_left width Short = 0

-- just the step was made that came next: of the look, or of the append, by what the seat knew before it
abbrev pub MakesPayStep : BookTerms → List Publication → PayStage → SeatTerms → SeatTerms → TotalSums → Type 0
MakesPayStep b seen (Look l) before after now = MakesLookLoad b seen l.stage before after now
MakesPayStep b seen (Append a) before after now =
    (a.mark ≡ before.knows) × (a.stored ≤ record_width b)
    × (a.stored < record_width b → StoresNextWord a after.knows)
    × (a.stored ≡ record_width b → Publishes b a.mark after.knows (publication_of a))
MakesPayStep b seen Short before after now = ⊥

-- what comes after that, of n processes: the look goes on, or it has ended, and the first store of the record comes next, or nothing; the stores
-- go on
abbrev pub FollowsPay : ℕ → PayStage → PayStage → Type 0
FollowsPay n (Look l) (Look m) = FollowsLook n l.stage m.stage
FollowsPay n (Look l) (Append a) = EndsLook n l.stage × (a.stored ≡ 0)
FollowsPay n (Look l) Short = EndsLook n l.stage
FollowsPay n (Append a) next = (c : AppendingTerms) × (next ≡ Append c) × (c.stored ≡ a.stored + 1)
FollowsPay n Short next = ⊥

-- how many records the next turn publishes: one where the record's words are stored, and else none
abbrev pub pay_publishes_at : BookTerms → PayStage → ℕ
pay_publishes_at b (Look l) = 0
pay_publishes_at b (Append a) = published_after (record_width b) a.stored
pay_publishes_at b Short = 0

-- and the process whose length it loads, if it loads one
abbrev pub pay_length_at : PayStage → Option ℕ
pay_length_at (Look l) = length_at l.stage
pay_length_at (Append a) = None
pay_length_at Short = None

-- the step of the next turn
abbrev pub pay_step_at : BookTerms → PayStage → Option BoardStep
pay_step_at b (Look l) = step_at l.stage
pay_step_at b (Append a) = append_step b a
pay_step_at b Short = None

-- the steps of a payment after its look: of a record with so many words, where it is done
abbrev pub append_steps : ℕ → Reply → ℕ
append_steps width Done = width + 1
append_steps width Reply.Short = 0
append_steps width NotOwner = 0
append_steps width Full = 0
append_steps width (Balance amount) = 0

-- the receipt of each call with this payout says that it was decided at the cut of its snapshot
abbrev pub AnswersAlone : BookTerms → Knowledge → Knowledge → ℕ → List TargetPair → Reply × At → Type 0
AnswersAlone b before after from targets answer = OnReceipts from targets answer (λ r. PaysAlone b before after from targets r.call r)

-- so many turns are at most those of a snapshot and of an append, and of the loads of so many records
abbrev pub IsPayWithin : ℕ → ℕ → ℕ → Type 0
IsPayWithin n records turns = turns ≤ single_steps n + RECORD_WORDS * records

-- nothing that the seat's process has on any account has changed: it has asked for nothing, and decided nothing
abbrev pub HasSameAsking : Knowledge → Knowledge → Type 0
HasSameAsking before after = (a : ℕ) → asking_on (own_part after) a ≡ asking_on (own_part before) a
