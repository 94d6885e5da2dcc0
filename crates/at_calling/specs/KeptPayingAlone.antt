-- What the type of a payment in the making keeps of its fields, which no caller sees.
use Rattle.std.specs.Prelude.{◌≡◌, ◌+◌, ◌<◌, ◌≤◌, ◌↔◌, List, IfSome, IsSome, Option, length, sum}
use Rattle.at_calling.specs.Prelude.{BookTerms, amount_of, balance_after, prefix_of, IsPrefix, owns_of, AreTargets, Publication, Entry, own_part, IsKept, SeatTerms, record_width, StaysCounted, TotalSums, Reply, At, single_steps, HasLooked, IsOnlyOwner, AppendingTerms, IsWithin, IsWithinOneMore, LookingTerms, look_turns_left}
use Rattle.at_calling.specs.PayingAlone.{AnswersAlone, FollowsPay, HasSameAsking, IsPayWithin, MakesPayStep, PayingAloneTerms, append_steps, pay_turns_left, turns_made}
use Rattle.at_calling.specs.Reading.{LeavesTotals, counted_so_far, newly_seen}
use Rattle.at_calling.specs.declared.pay_stage.PayStage.{PayStage}
use Rattle.at_calling.specs.declared.pay_stage.PayStage.TheVariants.{Append, Look, Short}
use Rattle.at_calling.specs.declared.paying_alone.PayingAlone.TheInside.{Inside}

-- the terms of its fields
abbrev pub paying_alone_of : Inside → PayingAloneTerms
paying_alone_of p = record {
  from = p.from;
  targets = p.targets;
  stage = p.stage;
  looked = p.looked;
  start = p.start.value.knows;
  mark = p.mark.value.knows;
  was = p.was.value;
  totals = p.totals.value;
}

-- the look goes on
pub record IsLookingFirst (t : PayingAloneTerms) (l : LookingTerms) : Type 0 where
  pub start_is : l.start ≡ t.start
  pub mark_is : l.mark ≡ t.mark
  pub was_is : l.was ≡ t.was
  pub totals_are : l.totals ≡ t.totals
  pub left : 0 < look_turns_left l.stage

-- the record of the payment is stored: the cut of the look is its view, and the balance there covers it. Nothing was published
pub record IsAppendingThen (t : PayingAloneTerms) (a : AppendingTerms) : Type 0 where
  pub mark_is : a.mark ≡ t.mark
  pub unpublished : (own_part t.mark).published ≡ (own_part t.start).published
  pub looked_at : HasLooked t.start.book t.start a.start t.was t.totals a.rec.view
  pub entry : a.rec.entry ≡ Entry.Own t.from t.targets
  pub enough : amount_of t.targets ≤ balance_after t.start.book (prefix_of a.rec.view a.start.seen) t.from
  pub few : IsWithin t.start.book.processes t.was (sum a.rec.view) t.looked
  pub seen : sum a.rec.view ≤ length t.mark.seen
  pub begins : IsPrefix t.start.seen t.mark.seen

abbrev pub IsPayStageSo : PayingAloneTerms → PayStage → Type 0
IsPayStageSo t (Look l) = IsLookingFirst t l
IsPayStageSo t (Append a) = a.stored ≤ record_width t.start.book → IsAppendingThen t a
IsPayStageSo t Short = Unit {0}

-- an only owner with room pays
pub record IsPayingAloneSo (t : PayingAloneTerms) : Type 0 where
  pub kept : IsKept t.start
  pub book : t.mark.book ≡ t.start.book
  pub asks : HasSameAsking t.start t.mark
  pub owner : IsOnlyOwner t.start.book t.start.first t.from
  pub account_in : t.from < length t.start.book.accounts
  pub targets_in : AreTargets t.start.book t.targets
  pub room : owns_of t.start.first t.start.seen < t.start.book.own_room
  pub stage_so : IsPayStageSo t t.stage

-- what a turn leaves of the payment, in whichever stage it was: all but the stage, and what the seat knows and the totals have counted, is
-- as it was
pub record TakesPayTurn (b : BookTerms) (seen : List Publication) (t u : PayingAloneTerms) (before after : SeatTerms) (now : TotalSums) (answer : Option (Reply × At)) : Type 0 where
  pub from_is : u.from ≡ t.from
  pub targets_are : u.targets ≡ t.targets
  pub start_is : u.start ≡ t.start
  pub mark_is : u.mark ≡ after.knows
  pub was_is : u.was ≡ t.was
  pub totals_are : u.totals ≡ now
  pub turns : turns_made u ≡ turns_made t + 1
  pub step : MakesPayStep b seen t.stage before after now
  pub follows : FollowsPay b.processes t.stage u.stage
  pub left : pay_turns_left (record_width b) u.stage < pay_turns_left (record_width b) t.stage
  pub ends : IsSome answer ↔ (pay_turns_left (record_width b) u.stage ≡ 0)
  pub so_far : IsPayWithin b.processes (newly_seen t.start after.knows t.was.upto) (turns_made u)
  pub counting : IsWithinOneMore (single_steps b.processes) (counted_so_far t.start after.knows t.was.upto now.upto) (turns_made u)
  pub begins : IsPrefix t.start.seen after.knows.seen
  pub asks : HasSameAsking t.start after.knows
  pub pays : IfSome answer (AnswersAlone b t.start after.knows t.from t.targets)
  pub counted : IfSome answer (λ r. StaysCounted now b after.knows.seen)
  pub leaves : IfSome answer (λ r. LeavesTotals b t.start after.knows t.was now (append_steps (record_width b) r.0) (turns_made u))
