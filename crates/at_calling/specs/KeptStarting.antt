-- What the type of a start in the making keeps of its fields, which no caller sees.
use Rattle.std.specs.Prelude.{◌≡◌, ℕ, ◌+◌, ◌<◌, ◌≤◌, ◌↔◌, List, IfSome, IsSome, Option, None, length, sum}
use Rattle.at_calling.specs.Prelude.{BookTerms, TargetPair, place, IsPrefix, AreTargets, Publication, asking_on, own_part, IsKept, SeatTerms, Announces, MayStoreRequest, Knowledge, REQUEST_WORDS, StaysCounted, TotalSums, HasLoadedNothing, request_of, HelpingTerms, HasAllSettled, decides_on, HasLooked, AskingTerms, CollectingRowsTerms, IsWithin, IsWithinOneMore, LookingTerms, look_turns_left}
use Rattle.at_calling.specs.Reading.{LeavesTotals, counted_so_far, newly_seen}
use Rattle.at_calling.specs.Starting.{FollowsStart, HasSameCounts, IsStartOf, IsStartWithin, MakesStartStep, StartingTerms, asking_steps_of, start_steps, start_turns_left, start_turns_made}
use Rattle.at_calling.specs.declared.start_stage.StartStage.{StartStage}
use Rattle.at_calling.specs.declared.start_stage.StartStage.TheVariants.{Ask, Collect, Look}
use Rattle.at_calling.specs.declared.starting.Starting.TheInside.{Inside}

-- the terms of its fields
abbrev pub starting_of : Inside → StartingTerms
starting_of s = record {
  account = s.account;
  targets = s.targets;
  stage = s.stage;
  looked = s.looked;
  start = s.start.value.knows;
  mark = s.mark.value.knows;
  was = s.was.value;
  totals = s.totals.value;
}

-- the look goes on
pub record IsLookingToAsk (t : StartingTerms) (l : LookingTerms) : Type 0 where
  pub start_is : l.start ≡ t.start
  pub mark_is : l.mark ≡ t.mark
  pub was_is : l.was ≡ t.was
  pub totals_are : l.totals ≡ t.totals
  pub left : 0 < look_turns_left l.stage

-- the look has ended at this moment, and the request has the targets and the place of its cut. Nothing was published or decided since
-- the start
pub record HasLookedToAsk (t : StartingTerms) (looked : Knowledge) (account : ℕ) (targets : List TargetPair) (since : ℕ) : Type 0 where
  pub account_is : account ≡ t.account
  pub targets_are : targets ≡ t.targets
  pub cut : List ℕ
  pub looked_at : HasLooked t.start.book t.start looked t.was t.totals cut
  pub since_is : since ≡ place cut
  pub few : IsWithin t.start.book.processes t.was (sum cut) t.looked
  pub same : HasSameCounts t.start t.mark account
  pub more : IsPrefix looked.seen t.mark.seen

-- the request is stored
pub record IsAskingThen (t : StartingTerms) (a : AskingTerms) : Type 0 where
  pub mark_is : a.mark ≡ t.mark
  pub left : a.stored ≤ REQUEST_WORDS
  pub to_ask : HasLookedToAsk t a.start a.account a.targets a.since

-- the request is announced, and the rows are loaded
pub record IsCollectingThen (t : StartingTerms) (c : CollectingRowsTerms) : Type 0 where
  pub mark_is : c.mark ≡ t.mark
  pub left : REQUEST_WORDS + c.made < asking_steps_of t.start.book t
  pub looked : Knowledge
  pub to_ask : HasLookedToAsk t looked c.account c.own.targets c.own.since
  pub number : c.own.number ≡ length (asking_on (own_part looked) c.account).announced
  pub announced : Announces t.start.book looked c.start c.account c.own.slot (request_of c.own)
  pub nothing_loaded : HasLoadedNothing c.start c.account

abbrev pub IsStartStageSo : StartingTerms → StartStage → Type 0
IsStartStageSo t (Look l) = IsLookingToAsk t l
IsStartStageSo t (Ask a) = IsAskingThen t a
IsStartStageSo t (Collect c) = IsCollectingThen t c

-- an owner who waits for no request asks
pub record IsStartingSo (t : StartingTerms) : Type 0 where
  pub kept : IsKept t.start
  pub book : t.mark.book ≡ t.start.book
  pub targets_in : AreTargets t.start.book t.targets
  pub asks : (slot : ℕ) × MayStoreRequest t.start.book t.start t.account slot
  pub settled : HasAllSettled t.start.book t.start t.account
  pub free : (own_part t.start).held ≡ None
  pub stage_so : IsStartStageSo t t.stage

-- what a turn leaves of the start, in whichever stage it was: all but the stage, and what the seat knows and the totals have counted, is as it
-- was
pub record TakesStartTurn (b : BookTerms) (seen : List Publication) (t u : StartingTerms) (before after : SeatTerms) (now : TotalSums) (answer : Option HelpingTerms) : Type 0 where
  pub account_is : u.account ≡ t.account
  pub targets_are : u.targets ≡ t.targets
  pub start_is : u.start ≡ t.start
  pub mark_is : u.mark ≡ after.knows
  pub was_is : u.was ≡ t.was
  pub totals_are : u.totals ≡ now
  pub turns : start_turns_made u ≡ start_turns_made t + 1
  pub step : MakesStartStep b seen t.stage before after now
  pub follows : FollowsStart b t.stage u.stage
  pub counted : StaysCounted now b after.knows.seen
  pub left : start_turns_left b u < start_turns_left b t
  pub so_far : IsStartWithin b u (newly_seen t.start after.knows t.was.upto)
  pub counting : IsWithinOneMore (start_steps b t) (counted_so_far t.start after.knows t.was.upto now.upto) (start_turns_made u)
  pub ends : IsSome answer ↔ (start_turns_left b u ≡ 0)
  pub begins : IsPrefix t.start.seen after.knows.seen
  pub undecided : decides_on after.knows t.account ≡ decides_on t.start t.account
  pub starts : IfSome answer (IsStartOf b t.start after.knows t.account t.targets)
  pub leaves : IfSome answer (λ h. LeavesTotals b t.start after.knows t.was now (asking_steps_of b t) (start_turns_made u))
