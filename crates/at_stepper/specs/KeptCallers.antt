-- What the type of a caller keeps of its fields, which no other sees.
use Rattle.std.specs.Prelude.{◌≡◌, ℕ, ◌+◌, ◌<◌, ◌≤◌, List, Option, Some, None, length, take}
use Rattle.at_stepper.specs.Prelude.{BookTerms, Call, SeatTerms, IsHistory, IsPrefix, Publication, calls_of, Receipt, IsOfOnePass, pass_of, PassTerms, Stands, past_receipts, seat_of, raised, Rest, CallingTerms, EndsCall, IsWay, MakesCallStep, StartsFrom, call_turns_left, exchanges_made, exchanges_of, first_step, next_step, pass_before, publishes_of, refusal_in, steps_made, steps_of, CallStage}
use Rattle.at_stepper.specs.Callers.{CallerTerms, IsFile, LeavesCaller, answers_in, caller_turns_left, calls_left_of, next_call, own_seen, steps_in}
use Rattle.at_stepper.specs.declared.turned.Turned.{Turned}

-- the pass between calls, or with which the call in the making began, and what the next turn of that goes on with
abbrev pub pass_in : SeatTerms → Rest → Option CallingTerms → PassTerms
pass_in seat rest None = pass_of seat rest
pass_in seat rest (Some c) = pass_before c

abbrev pub stage_in : Option CallingTerms → Option CallStage
stage_in None = None
stage_in (Some c) = Some c.stage

-- a caller by its fields
abbrev pub caller_of : SeatTerms → Rest → List Call → List Receipt → Option CallingTerms → CallerTerms
caller_of seat rest calls receipts making = record {
  pass = pass_in seat rest making;
  seat = seat;
  totals = rest.totals;
  calls = calls;
  receipts = receipts;
  stage = stage_in making;
}

-- the next call was begun with this pass, of this seat and rest after the last turn, and is not ended
pub record IsNextInMaking (calls : List Call) (made : ℕ) (call : Call) (seat : SeatTerms) (rest : Rest) (c : CallingTerms) : Type 0 where
  pub more : made < length calls
  pub call_is : c.call ≡ call
  pub mark : c.mark ≡ seat
  pub rest_is : c.rest ≡ rest
  pub book : c.start.knows.book ≡ seat.knows.book
  pub begins : IsPrefix c.start.knows.seen seat.knows.seen
  pub left : 0 < call_turns_left seat.knows.book c.stage
  pub way : steps_made c.stage ≡ 0 → IsWay seat.knows.book (pass_before c) call c.stage

-- the pass is between two calls, or the next one is in the making
abbrev pub IsMakingSo : List Call → ℕ → Call → SeatTerms → Rest → Option CallingTerms → Type 0
IsMakingSo calls made call seat rest None = IsOfOnePass seat rest
IsMakingSo calls made call seat rest (Some c) = IsNextInMaking calls made call seat rest c

-- the receipts are of the first calls, in order. They stand with the pass and are those of its calls, and there is room for one receipt
-- of each call
pub record IsCallerSo (caller : CallerTerms) (room : ℕ) : Type 0 where
  pub file : IsFile (length caller.seat.knows.book.accounts) caller.calls
  pub stands : Stands caller.pass caller.receipts
  pub past : past_receipts caller.pass ≡ caller.receipts
  pub made : calls_of caller.receipts ≡ take (length caller.receipts) caller.calls
  pub within : length caller.receipts ≤ length caller.calls
  pub fits : length caller.calls ≤ room

pub record IsCallerOf (seat : SeatTerms) (rest : Rest) (calls : List Call) (receipts : List Receipt) (making : Option CallingTerms) (room : ℕ) : Type 0 where
  pub caller : IsCallerSo (caller_of seat rest calls receipts making) room
  pub making_so : IsMakingSo calls (length receipts) (next_call (caller_of seat rest calls receipts making)) seat rest making

-- the next call of a caller is begun as its pass says, in no step
pub record StartsNext (b : BookTerms) (before after : CallerTerms) : Type 0 where
  pub stage : CallStage
  pub same : after ≡ record before { stage = Some stage }
  pub history : IsHistory before.pass.knows.book before.pass.knows.seen
  pub way : IsWay b before.pass (next_call before) stage
  pub starts : StartsFrom before.pass.knows before.totals stage
  pub unturned : steps_made stage ≡ 0
  pub unexchanged : exchanges_made stage ≡ 0
  pub first : next_step b stage ≡ first_step (refusal_in b before.pass (next_call before))

-- just the next step was made of the call in the making, which is then answered or goes on
pub record TakesTurn (b : BookTerms) (published : List Publication) (before after : CallerTerms) (turned : Turned) (stage : CallStage) : Type 0 where
  pub leaves : LeavesCaller b before after stage turned
  pub ends : after.stage ≡ None → EndsCall b stage
  pub step : MakesCallStep b published stage before.seat after.seat after.totals
  pub kind : steps_in turned ≡ steps_of stage
  pub steps : after.seat.steps ≡ raised before.seat.steps (steps_in turned)
  pub exchanges : after.seat.exchanges ≡ raised before.seat.exchanges (exchanges_of stage)
  pub publishes : own_seen after ≡ own_seen before + publishes_of b stage
  pub calls : after.calls ≡ before.calls
  pub process_is : after.pass.knows.first ≡ before.pass.knows.first
  pub left : calls_left_of before ≡ calls_left_of after + answers_in turned
  pub turns_left : caller_turns_left b after < caller_turns_left b before
  pub stands : Stands after.pass after.receipts
  pub between : after.stage ≡ None → seat_of after.pass ≡ after.seat
