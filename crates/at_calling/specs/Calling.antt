-- Calls of the object that are made one step a turn, by a pass that was taken apart.
use Rattle.std.specs.Prelude.{◌≡◌, ◌≢◌, ℕ, ◌+◌, ◌*◌, ◌≤◌, false, true, List, Option, Some, None}
use Rattle.at_calling.specs.Prelude.{is_shared, is_single, slots_of, BookTerms, account_of, Call, Reply, SeatTerms, record_width, Knowledge, BoardStep, RECORD_WORDS, TotalSums, first_account, payout_of, Publication, call_steps, may_exchange, pass_of, PassTerms, refusal_in, Receipt, Rest, with_one_call, decides_made, IsWithinOneMore, FollowsLook, MakesLookLoad, first_load, length_at, look_turns_left, step_at}
use Rattle.at_calling.specs.PayingAlone.{FollowsPay, MakesPayStep, PayingAloneTerms, pay_length_at, pay_publishes_at, pay_step_at, pay_turns_left, turns_made}
use Rattle.at_calling.specs.PayingShared.{FollowsShare, MakesShareStep, PayingSharedTerms, share_exchanges_at, share_exchanges_made, share_length_at, share_publishes_at, share_step_at, share_turns_left}
use Rattle.at_calling.specs.Reading.{ReadingTerms, counted_so_far, newly_seen}
use Rattle.at_calling.specs.declared.call_stage.CallStage.{CallStage}
use Rattle.at_calling.specs.declared.call_stage.CallStage.TheVariants.{PayAlone, PayShared, Read, Refuse, Refused}

-- a call by what it asks, by what the next turn goes on with, and by its pass's seat and the rest of the pass, at the start and after the
-- last turn
pub record CallingTerms : Type 0 where
  pub call : Call
  pub stage : CallStage
  pub start : SeatTerms
  pub was : Rest
  pub mark : SeatTerms
  pub rest : Rest

-- the pass at the start
abbrev pub pass_before : CallingTerms → PassTerms
pass_before t = pass_of t.start t.was

-- the rest of the pass counts the call as one more, with this receipt
abbrev pub CountsCall : CallingTerms → SeatTerms → Rest → Receipt → Type 0
CountsCall t after rest r = rest.calls ≡ with_one_call t.start after rest.totals r t.was.calls

-- how the call is made: it is refused, or reads, or the one owner of its source pays, or one who shares it
abbrev pub IsWay : BookTerms → PassTerms → Call → CallStage → Type 0
IsWay b before call (Refuse reply) = refusal_in b before call ≡ Some reply
IsWay b before call Refused = refusal_in b before call ≢ None
IsWay b before call (Read r) = call ≡ Call.Read r.account
IsWay b before call (PayAlone p) =
    (payout_of call ≡ Some (p.from, p.targets)) × (refusal_in b before call ≡ None) × (is_single (account_of b p.from) ≡ true)
IsWay b before call (PayShared p) =
    (payout_of call ≡ Some (p.account, p.targets)) × (refusal_in b before call ≡ None) × (is_shared (account_of b p.account) ≡ true)

-- what begins with what its seat knows and its totals have counted
pub record BeginsWith (v : Knowledge) (counted : TotalSums) (start mark : Knowledge) (was totals : TotalSums) : Type 0 where
  pub start_is : start ≡ v
  pub mark_is : mark ≡ v
  pub was_is : was ≡ counted
  pub totals_are : totals ≡ counted

-- a call begins with what its seat knows and its totals have counted
abbrev pub StartsFrom : Knowledge → TotalSums → CallStage → Type 0
StartsFrom v counted (Refuse reply) = Unit {0}
StartsFrom v counted Refused = ⊥
StartsFrom v counted (Read r) = BeginsWith v counted r.looking.start r.looking.mark r.looking.was r.looking.totals
StartsFrom v counted (PayAlone p) = BeginsWith v counted p.start p.mark p.was p.totals
StartsFrom v counted (PayShared p) = BeginsWith v counted p.start p.mark p.was p.totals

-- the steps that were made
abbrev pub steps_made : CallStage → ℕ
steps_made (Refuse reply) = 0
steps_made Refused = 0
steps_made (Read r) = r.looking.turns
steps_made (PayAlone p) = turns_made p
steps_made (PayShared p) = p.turns

-- the exchanges that were made
abbrev pub exchanges_made : CallStage → ℕ
exchanges_made (Refuse reply) = 0
exchanges_made Refused = 0
exchanges_made (Read r) = 0
exchanges_made (PayAlone p) = 0
exchanges_made (PayShared p) = share_exchanges_made p

-- the turns that are left at most
abbrev pub call_turns_left : BookTerms → CallStage → ℕ
call_turns_left b (Refuse reply) = 1
call_turns_left b Refused = 0
call_turns_left b (Read r) = look_turns_left r.looking.stage
call_turns_left b (PayAlone p) = pay_turns_left (record_width b) p.stage
call_turns_left b (PayShared p) = share_turns_left b p

-- how many steps the next turn makes: one, and none where the call is refused
abbrev pub steps_of : CallStage → ℕ
steps_of (Refuse reply) = 0
steps_of Refused = 0
steps_of (Read r) = 1
steps_of (PayAlone p) = 1
steps_of (PayShared p) = 1

-- and how many exchanges
abbrev pub exchanges_of : CallStage → ℕ
exchanges_of (Refuse reply) = 0
exchanges_of Refused = 0
exchanges_of (Read r) = 0
exchanges_of (PayAlone p) = 0
exchanges_of (PayShared p) = share_exchanges_at p.stage

-- how many records it publishes
abbrev pub publishes_of : BookTerms → CallStage → ℕ
publishes_of b (Refuse reply) = 0
publishes_of b Refused = 0
publishes_of b (Read r) = 0
publishes_of b (PayAlone p) = pay_publishes_at b p.stage
publishes_of b (PayShared p) = share_publishes_at b p.stage

-- and the process whose length it loads, if it loads one
abbrev pub length_loaded : CallStage → Option ℕ
length_loaded (Refuse reply) = None
length_loaded Refused = None
length_loaded (Read r) = length_at r.looking.stage
length_loaded (PayAlone p) = pay_length_at p.stage
length_loaded (PayShared p) = share_length_at p.stage

-- the step that the next turn makes, if it makes one
abbrev pub next_step : BookTerms → CallStage → Option BoardStep
next_step b (Refuse reply) = None
next_step b Refused = None
next_step b (Read r) = step_at r.looking.stage
next_step b (PayAlone p) = pay_step_at b p.stage
next_step b (PayShared p) = share_step_at b p.stage

-- the first one of a call, by why it is refused: each other call begins with a look
abbrev pub first_step : Option Reply → Option BoardStep
first_step None = first_load
first_step (Some reply) = None

-- just the step was made that came next: none of a call that is refused
abbrev pub MakesCallStep : BookTerms → List Publication → CallStage → SeatTerms → SeatTerms → TotalSums → Type 0
MakesCallStep b seen (Refuse reply) before after now = after ≡ before
MakesCallStep b seen Refused before after now = ⊥
MakesCallStep b seen (Read r) before after now = MakesLookLoad b seen r.looking.stage before after now
MakesCallStep b seen (PayAlone p) before after now = MakesPayStep b seen p.stage before after now
MakesCallStep b seen (PayShared p) before after now = MakesShareStep b seen p.stage before after now

-- what comes after that: a refusal ends at once, and each other call goes on
abbrev pub FollowsCall : BookTerms → CallStage → CallStage → Type 0
FollowsCall b (Refuse reply) next = next ≡ Refused
FollowsCall b Refused next = ⊥
FollowsCall b (Read r) next = (s : ReadingTerms) × (next ≡ Read s) × FollowsLook b.processes r.looking.stage s.looking.stage
FollowsCall b (PayAlone p) next = (q : PayingAloneTerms) × (next ≡ PayAlone q) × FollowsPay b.processes p.stage q.stage
FollowsCall b (PayShared p) next = (q : PayingSharedTerms) × (next ≡ PayShared q) × FollowsShare b p.stage q.stage

-- that was its last turn
abbrev pub EndsCall : BookTerms → CallStage → Type 0
EndsCall b stage = (last : CallStage) × FollowsCall b stage last × (call_turns_left b last ≡ 0)

-- so many steps and exchanges are within the bounds of a call of this pass so far, with this known and counted. The records that were seen
-- or counted anew are those of others: what the call itself has published took no load. The steps are fewer, too, than with those that were
-- counted and one more. The exchanges are those that were decided on the account that the call names first, at most one for each owner, and
-- there are none where the call may make none
pub record IsCallWithin (b : BookTerms) (before : PassTerms) (call : Call) (after : Knowledge) (counted : List ℕ) (steps exchanges : ℕ) : Type 0 where
  pub few : steps ≤ call_steps b call + RECORD_WORDS * newly_seen before.knows after before.counted
  pub counting : IsWithinOneMore (call_steps b call) (counted_so_far before.knows after before.counted counted) steps
  pub decided : exchanges ≡ decides_made (first_account call) before.knows after
  pub none : may_exchange b call ≡ false → exchanges ≡ 0
  pub few_decided : exchanges ≤ slots_of (account_of b (first_account call))
