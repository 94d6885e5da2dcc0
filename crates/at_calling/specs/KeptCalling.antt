-- What the type of a call in the making keeps of its fields, which no caller sees.
use Rattle.std.specs.Prelude.{◌≡◌, ◌+◌, ◌++◌, ◌<◌, ◌↔◌, List, [], ◌∷◌, IfSome, IsSome, Option, length}
use Rattle.at_calling.specs.Prelude.{BookTerms, IsCallOn, AreRuns, IsPrefix, Publication, raised, IsKept, SeatTerms, record_width, Knowledge, TotalSums, IsPlaced, Receipt, IsOfOnePass, pass_of, Stands, IsRefused, Rest, CallMade, StaysWithin, look_turns_left}
use Rattle.at_calling.specs.Calling.{CallingTerms, CountsCall, FollowsCall, IsCallWithin, IsWay, MakesCallStep, call_turns_left, exchanges_made, exchanges_of, pass_before, steps_made, steps_of}
use Rattle.at_calling.specs.PayingAlone.{pay_turns_left}
use Rattle.at_calling.specs.PayingShared.{share_turns_left}
use Rattle.at_calling.specs.declared.call_stage.CallStage.{CallStage}
use Rattle.at_calling.specs.declared.call_stage.CallStage.TheVariants.{PayAlone, PayShared, Read, Refuse, Refused}
use Rattle.at_calling.specs.declared.calling.Calling.TheInside.{Inside}

-- the terms of its fields
abbrev pub calling_of : Inside → CallingTerms
calling_of c = record {
  call = c.call;
  stage = c.stage;
  start = c.start.value;
  was = c.was.value;
  mark = c.mark.value;
  rest = c.rest.value;
}

-- a read or a payment goes on, of this start and after this turn: of the rest of its pass nothing but the totals has changed
pub record IsMakingStill (t : CallingTerms) (start mark : Knowledge) (was totals : TotalSums) : Type 0 where
  pub start_is : start ≡ t.start.knows
  pub mark_is : mark ≡ t.mark.knows
  pub was_is : was ≡ t.was.totals
  pub totals_are : totals ≡ t.rest.totals
  pub sent_is : t.rest.sent ≡ t.was.sent
  pub calls_are : t.rest.calls ≡ t.was.calls

abbrev pub IsCallStageSo : CallingTerms → CallStage → Type 0
IsCallStageSo t (Refuse reply) = (t.mark ≡ t.start) × (t.rest ≡ t.was)
IsCallStageSo t Refused = Unit {0}
IsCallStageSo t (Read r) = 0 < look_turns_left r.looking.stage → IsMakingStill t r.looking.start r.looking.mark r.looking.was r.looking.totals
IsCallStageSo t (PayAlone p) =
    0 < pay_turns_left (record_width t.start.knows.book) p.stage → IsMakingStill t p.start p.mark p.was p.totals
IsCallStageSo t (PayShared p) = 0 < share_turns_left t.start.knows.book p → IsMakingStill t p.start p.mark p.was p.totals

-- a pass that was between calls makes one, and its seat has counted all its steps and exchanges
pub record IsCallingSo (t : CallingTerms) : Type 0 where
  pub kept : IsKept t.start.knows
  pub pass : IsOfOnePass t.start t.was
  pub board : t.mark.board ≡ t.start.board
  pub book : t.mark.knows.book ≡ t.start.knows.book
  pub call_on : IsCallOn (length t.start.knows.book.accounts) t.call
  pub way : IsWay t.start.knows.book (pass_before t) t.call t.stage
  pub steps : t.mark.steps ≡ raised t.start.steps (steps_made t.stage)
  pub exchanges : t.mark.exchanges ≡ raised t.start.exchanges (exchanges_made t.stage)
  pub stage_so : IsCallStageSo t t.stage

-- what a turn leaves of the call, in whichever stage it was: all but the stage, and what the seat and the rest of its pass are, is as it was
pub record TakesCallTurn (b : BookTerms) (seen : List Publication) (t u : CallingTerms) (before after : SeatTerms) (now : Rest) (answer : Option Receipt) : Type 0 where
  pub call_is : u.call ≡ t.call
  pub start_is : u.start ≡ t.start
  pub was_is : u.was ≡ t.was
  pub mark_is : u.mark ≡ after
  pub rest_is : u.rest ≡ now
  pub turns : steps_made u.stage ≡ steps_made t.stage + steps_of t.stage
  pub step : MakesCallStep b seen t.stage before after now.totals
  pub follows : FollowsCall b t.stage u.stage
  pub left : call_turns_left b u.stage < call_turns_left b t.stage
  pub so_far : IsCallWithin b (pass_before t) t.call after.knows now.totals.upto (steps_made u.stage) (exchanges_made u.stage)
  pub ends : IsSome answer ↔ (call_turns_left b u.stage ≡ 0)
  pub made : IfSome answer (CallMade b (pass_before t) (pass_of after now) t.call)
  pub placed : IfSome answer (λ r. (earlier : List Receipt) → Stands (pass_before t) earlier → IsPlaced b t.start.knows.first after.knows.seen earlier r)
  pub stands : IfSome answer (λ r. (earlier : List Receipt) → Stands (pass_before t) earlier → Stands (pass_of after now) (earlier ++ r ∷ []))
  pub kept : IfSome answer (λ r. IsOfOnePass after now)
  pub calls : IfSome answer (CountsCall t after now)
  pub begins : IsPrefix t.start.knows.seen after.knows.seen
  pub runs : AreRuns b after.knows.seen
  pub within : IfSome answer (StaysWithin b (pass_before t) (pass_of after now) t.call)
  pub refused : IfSome answer (λ r. IsRefused r → steps_made u.stage ≡ 0)
  pub exchanges : exchanges_made u.stage ≡ exchanges_made t.stage + exchanges_of t.stage
