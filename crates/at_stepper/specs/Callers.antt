-- Callers: processes that make their calls one after another, a step a turn.
use Rattle.std.specs.Prelude.{◌≡◌, ◌≢◌, ℕ, ◌+◌, ◌-◌, ◌*◌, ◌^◌, ◌<◌, ◌≤◌, ◌++◌, Bool, true, false, List, [], ◌∷◌, All, Option, Some, None, drop, length, slice_index_or, sum_by, if◌then◌else◌, refl}
use Rattle.at_stepper.specs.Prelude.{BookTerms, IsCallOn, Call, Reply, Balance, Done, Full, NotOwner, Short, places_max, IsHistory, IsPrefix, count_of, Publication, raised, SeatTerms, MakesOnly, BoardStep, RECORD_WORDS, TotalSums, look_at, At, Receipt, three_processes, PassTerms, Stands, seat_of, sent_by, EndsCall, FollowsCall, IsCallWithin, IsWay, MakesCallStep, StartsFrom, exchanges_made, exchanges_of, first_step, next_step, publishes_of, refusal_in, steps_made, steps_of, CallMade, StaysWithin, call_steps, CallStage}
use Rattle.at_stepper.specs.declared.turned.Turned.{Turned}
use Rattle.at_stepper.specs.declared.turned.Turned.TheVariants.{Answer, Step}

-- a caller by the pass between its calls, which is that of the last answer, or that with which the call in the making began; by its seat and
-- its totals after the last turn; by its calls and the receipts of those that were answered; and by what the next turn of the call in the
-- making goes on with. Between two calls there is none
pub record CallerTerms : Type 0 where
  pub pass : PassTerms
  pub seat : SeatTerms
  pub totals : TotalSums
  pub calls : List Call
  pub receipts : List Receipt
  pub stage : Option CallStage

-- calls that a caller can make: they name accounts that are there, and are numbered by 32 bits
pub record IsFile (accounts : ℕ) (calls : List Call) : Type 0 where
  pub known : All (IsCallOn accounts) calls
  pub few : length calls < 2 ^ 32

-- how many calls are left to answer, and the next of them
abbrev pub calls_left_of : CallerTerms → ℕ
calls_left_of t = length t.calls - length t.receipts

abbrev pub next_call : CallerTerms → Call
next_call t = slice_index_or t.calls (length t.receipts) (Call.Read 0)

-- the caller of a pass, with all of these calls to make
pub record IsNewCaller (pass : PassTerms) (calls : List Call) (caller : CallerTerms) : Type 0 where
  pub pass_is : caller.pass ≡ pass
  pub seat_is : caller.seat ≡ seat_of pass
  pub calls_are : caller.calls ≡ calls
  pub unmade : caller.receipts ≡ []
  pub idle : caller.stage ≡ None

-- the steps and exchanges that a call in the making has made so far
abbrev pub steps_so_far : Option CallStage → ℕ
steps_so_far None = 0
steps_so_far (Some stage) = steps_made stage

abbrev pub exchanges_so_far : Option CallStage → ℕ
exchanges_so_far None = 0
exchanges_so_far (Some stage) = exchanges_made stage

-- a call was refused before it looked at any balance
abbrev pub is_refused : Reply → Bool
is_refused Done = false
is_refused Short = false
is_refused NotOwner = true
is_refused Full = true
is_refused (Balance amount) = false

-- how many steps a turn makes: one, and none where it answers not-owner or full
abbrev pub steps_in : Turned → ℕ
steps_in Step = 1
steps_in (Answer r) = if is_refused r.reply then 0 else 1

-- how many calls a turn answers
abbrev pub answers_in : Turned → ℕ
answers_in Step = 0
answers_in (Answer r) = 1

-- and the reply of that call
abbrev pub reply_in : Turned → Option Reply
reply_in Step = None
reply_in (Answer r) = Some r.reply

-- between two calls a caller has seen more, and nothing else has changed: it has made nothing
pub record HasLearned (before after : CallerTerms) : Type 0 where
  pub same : after ≡ record before { pass = after.pass; seat = seat_of after.pass }
  pub pass_same : after.pass ≡ record before.pass { knows = record before.pass.knows { seen = after.pass.knows.seen } }
  pub begins : IsPrefix before.pass.knows.seen after.pass.knows.seen
  pub sent : sent_by after.pass ≡ sent_by before.pass
  pub stands : Stands after.pass after.receipts

-- the next call of a caller begins: it has seen just what is published by then, and the call is made as its pass says. No step was made
pub record BeginsCall (b : BookTerms) (published : List Publication) (before ready : CallerTerms) (stage : CallStage) : Type 0 where
  pub learned : HasLearned (record before { stage = ready.stage }) ready
  pub seen : ready.pass.knows.seen ≡ published
  pub history : IsHistory ready.pass.knows.book ready.pass.knows.seen
  pub way : IsWay b ready.pass (next_call before) stage
  pub starts : StartsFrom ready.pass.knows ready.totals stage
  pub unturned : steps_made stage ≡ 0
  pub unexchanged : exchanges_made stage ≡ 0
  pub first : next_step b stage ≡ first_step (refusal_in b ready.pass (next_call before))

-- what a turn of a process goes on from: the call in the making, or, between two calls, the next one, which begins with this turn
abbrev pub IsReadyFrom : BookTerms → List Publication → CallerTerms → CallerTerms → CallStage → Option CallStage → Type 0
IsReadyFrom b published before ready stage None = BeginsCall b published before ready stage
IsReadyFrom b published before ready stage (Some going_on) = ready ≡ before

-- what a turn goes on from
pub record IsReadyToTurn (b : BookTerms) (published : List Publication) (before ready : CallerTerms) (stage : CallStage) : Type 0 where
  pub stage_is : ready.stage ≡ Some stage
  pub from : IsReadyFrom b published before ready stage before.stage

-- the call goes on after one step, within its bounds so far. The pass with which it began stays, and so do the receipts
pub record IsStillCalling (b : BookTerms) (before after : CallerTerms) (stage : CallStage) : Type 0 where
  pub pass : after.pass ≡ before.pass
  pub receipts : after.receipts ≡ before.receipts
  pub going_on : (next : CallStage) × (after.stage ≡ Some next) × FollowsCall b stage next
  pub turns : steps_so_far after.stage ≡ steps_made stage + 1
  pub exchanges : exchanges_so_far after.stage ≡ exchanges_made stage + exchanges_of stage
  pub begins : IsPrefix before.pass.knows.seen after.seat.knows.seen
  pub within : IsCallWithin b before.pass (next_call before) after.seat.knows after.totals.upto (steps_so_far after.stage) (exchanges_so_far after.stage)

-- the call is answered by this receipt, and the pass of its last step takes the place of the one before the call. The receipt rests on a look
-- at all that this one had seen
pub record IsAnswered (b : BookTerms) (before after : CallerTerms) (r : Receipt) : Type 0 where
  pub receipts : after.receipts ≡ before.receipts ++ r ∷ []
  pub call : r.call ≡ next_call before
  pub made : CallMade b before.pass after.pass (next_call before) r
  pub stands : Stands after.pass after.receipts
  pub seat : seat_of after.pass ≡ after.seat
  pub within : StaysWithin b before.pass after.pass (next_call before) r
  pub history : IsHistory after.pass.knows.book after.pass.knows.seen
  pub looked : r.at ≢ At.Previous → length before.pass.knows.seen ≤ look_at after.pass.knows.first after.pass.knows.seen r.at
  pub idle : after.stage ≡ None

-- what a turn leaves of its caller, by what it answers
abbrev pub LeavesCaller : BookTerms → CallerTerms → CallerTerms → CallStage → Turned → Type 0
LeavesCaller b before after stage Step = IsStillCalling b before after stage
LeavesCaller b before after stage (Answer r) = IsAnswered b before after r

-- the most turns of a call, whatever the others do
abbrev pub most_turns : BookTerms → Call → ℕ
most_turns b call = call_steps b call + RECORD_WORDS * places_max + 1

-- as numbers, of a book of three processes: of a read, and of payments from accounts of one owner and of all three. Whoever changes the
-- bound changes these too
pub most_turns-read : most_turns three_processes (Call.Read 0) ≡ 917520
most_turns-read = refl

pub most_turns-alone : most_turns three_processes (Call.Transfer 1 0 1) ≡ 917531
most_turns-alone = refl

pub most_turns-shared : most_turns three_processes (Call.Transfer 0 1 1) ≡ 917641
most_turns-shared = refl

-- the turns that are left to a caller at most
abbrev pub caller_turns_left : BookTerms → CallerTerms → ℕ
caller_turns_left b t = sum_by (most_turns b) (drop (length t.receipts) t.calls) - steps_so_far t.stage

-- how many records of its process a caller's seat has seen: it has seen all that it has published
abbrev pub own_seen : CallerTerms → ℕ
own_seen t = count_of t.seat.knows.first t.seat.knows.seen

-- one turn of a caller, where so much is published: from what it goes on from, just the step was made that came next
pub record IsTurned (b : BookTerms) (published : List Publication) (turned : Turned) (before after : CallerTerms) : Type 0 where
  pub ready : CallerTerms
  pub stage : CallStage
  pub is_ready : IsReadyToTurn b published before ready stage
  pub leaves : LeavesCaller b ready after stage turned
  pub ends : after.stage ≡ None → EndsCall b stage
  pub step : MakesCallStep b published stage ready.seat after.seat after.totals
  pub made : MakesOnly b ready.seat.knows after.seat.knows (steps_in turned) (next_step b stage)
  pub kind : steps_in turned ≡ steps_of stage
  pub steps : after.seat.steps ≡ raised before.seat.steps (steps_in turned)
  pub exchanges : after.seat.exchanges ≡ raised before.seat.exchanges (exchanges_of stage)
  pub publishes : own_seen after ≡ own_seen before + publishes_of b stage
  pub calls : after.calls ≡ before.calls
  pub process_is : after.pass.knows.first ≡ before.pass.knows.first
  pub left : calls_left_of before ≡ calls_left_of after + answers_in turned
  pub turns_left : caller_turns_left b after < caller_turns_left b before

-- whichever turn the caller makes next, this is the step that it makes, if it makes one
abbrev pub IsNextOf : BookTerms → CallerTerms → Option BoardStep → Type 0
IsNextOf b caller step = (published : List Publication) (turned : Turned) (after : CallerTerms) (one : IsTurned b published turned caller after)
    → step ≡ next_step b one.stage
