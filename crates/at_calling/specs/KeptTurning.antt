-- What the type of a turn of helping in the making keeps of its fields, which no caller sees.
use Rattle.std.specs.Prelude.{◌≡◌, ◌+◌, ◌*◌, ◌<◌, ◌≤◌, ◌↔◌, List, IfSome, IsSome, Option, length, sum}
use Rattle.at_calling.specs.Prelude.{BookTerms, IsPrefix, Publication, own_part, IsKept, SeatTerms, HasCounted, TotalSums, IsHelping, decides_made, decides_on, round_steps, HelpTurn, More, HasLooked, DecidingTerms, exchanges_in, left_of_round, IsWithin, IsWithinOneMore, LookingTerms, look_turns_left}
use Rattle.at_calling.specs.Reading.{CountsOthersStill, LeavesTotals, SeesOthersStill, counted_so_far, newly_seen}
use Rattle.at_calling.specs.Turning.{FollowsTurn, IsHelpOf, IsHelpWithin, LeavesSeat, MakesTurnStep, TurningTerms, WaitsOn, exchanges_at, help_steps, help_turns_left, help_turns_made}
use Rattle.at_calling.specs.declared.turn_stage.TurnStage.{TurnStage}
use Rattle.at_calling.specs.declared.turn_stage.TurnStage.TheVariants.{Decide, Found, Look}
use Rattle.at_calling.specs.declared.turning.Turning.TheInside.{Inside}

-- the terms of its fields
abbrev pub turning_of : Inside → TurningTerms
turning_of t = record {
  helping = t.helping.value;
  stage = t.stage;
  looked = t.looked;
  start = t.start.value.knows;
  mark = t.mark.value.knows;
  was = t.was.value;
  totals = t.totals.value;
}

-- the look goes on, and nothing was decided
pub record IsLookingStill (t : TurningTerms) (l : LookingTerms) : Type 0 where
  pub start_is : l.start ≡ t.start
  pub mark_is : l.mark ≡ t.mark
  pub was_is : l.was ≡ t.was
  pub totals_are : l.totals ≡ t.totals
  pub left : 0 < look_turns_left l.stage
  pub undecided : decides_on t.mark t.helping.account ≡ decides_on t.start t.helping.account

-- the round at the cut of the look goes on: its exchange was made or comes next, and nothing was published
pub record IsDecidingThen (t : TurningTerms) (d : DecidingTerms) : Type 0 where
  pub helping_is : d.helping ≡ t.helping
  pub mark_is : d.mark ≡ t.mark
  pub totals_are : d.totals ≡ t.totals
  pub looked_at : HasLooked t.start.book t.start d.start t.was t.totals d.cut
  pub few : IsWithin t.start.book.processes t.was (sum d.cut) t.looked
  pub seen : sum d.cut ≤ length t.mark.seen
  pub begins : IsPrefix t.start.seen t.mark.seen
  pub others : sum d.cut + (own_part t.mark).published ≤ length t.mark.seen + (own_part t.start).published
  pub unpublished : (own_part t.mark).published ≡ (own_part t.start).published
  pub left_is : d.left ≡ left_of_round d.start.book.processes d.next
  pub once : decides_on t.mark t.helping.account + exchanges_in d.next ≡ decides_on t.start t.helping.account + 1

abbrev pub IsTurnStageSo : TurningTerms → TurnStage → Type 0
IsTurnStageSo t (Look l) = IsLookingStill t l
IsTurnStageSo t (Decide d) = 0 < d.left → IsDecidingThen t d
IsTurnStageSo t Found = Unit {0}

-- the request waits at the start
pub record IsTurningSo (t : TurningTerms) : Type 0 where
  pub kept : IsKept t.start
  pub book : t.mark.book ≡ t.start.book
  pub helping : IsHelping t.start.book t.start t.helping
  pub stage_so : IsTurnStageSo t t.stage

-- what a step leaves of the turn of helping, in whichever stage it was: all but the stage, and what the seat knows and the totals have
-- counted, is as it was
pub record TakesHelpStep (b : BookTerms) (all_seen : List Publication) (t u : TurningTerms) (before after : SeatTerms) (now : TotalSums) (answer : Option HelpTurn) : Type 0 where
  pub helping_is : u.helping ≡ t.helping
  pub start_is : u.start ≡ t.start
  pub mark_is : u.mark ≡ after.knows
  pub was_is : u.was ≡ t.was
  pub totals_are : u.totals ≡ now
  pub turns : help_turns_made u ≡ help_turns_made t + 1
  pub step : MakesTurnStep b all_seen t.stage u.stage before after now
  pub follows : FollowsTurn b t.stage u.stage
  pub left : help_turns_left b.processes u.stage < help_turns_left b.processes t.stage
  pub ends : IsSome answer ↔ (help_turns_left b.processes u.stage ≡ 0)
  pub so_far : IsHelpWithin b.processes (decides_made t.helping.account t.start after.knows) (newly_seen t.start after.knows t.was.upto) (help_turns_made u)
  pub decides_few : decides_on t.start t.helping.account ≤ decides_on after.knows t.helping.account
  pub once : decides_made t.helping.account t.start after.knows ≤ 1
  pub begins : IsPrefix t.start.seen after.knows.seen
  pub seen : length t.start.seen ≤ length after.knows.seen
  pub others : SeesOthersStill t.start after.knows
  pub counting : IsWithinOneMore (help_steps b.processes (decides_made t.helping.account t.start after.knows))
      (counted_so_far t.start after.knows t.was.upto now.upto) (help_turns_made u)
  pub counts_others : CountsOthersStill t.start after.knows t.was now
  pub published : (own_part t.start).published ≤ (own_part after.knows).published
  pub help : IfSome answer (IsHelpOf b t.start after.knows t.helping)
  pub waits : IfSome answer (λ h. h ≡ More → WaitsOn b t.start after.knows t.helping)
  pub seat : IfSome answer (λ h. LeavesSeat t.start after.knows t.helping.account)
  pub counted : IfSome answer (λ h. HasCounted now b after.knows.seen)
  pub leaves : IfSome answer (λ h. LeavesTotals b t.start after.knows t.was now
      (round_steps b.processes * decides_made t.helping.account t.start after.knows) (help_turns_made u))
  pub decides : decides_made t.helping.account t.start after.knows ≡ decides_made t.helping.account t.start t.mark + exchanges_at t.stage
