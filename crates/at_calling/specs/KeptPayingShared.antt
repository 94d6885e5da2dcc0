-- What the type of a payment in the making keeps of its fields, which no caller sees.
use Rattle.std.specs.Prelude.{◌≡◌, ◌≢◌, ℕ, ◌+◌, ◌*◌, ◌<◌, ◌≤◌, ◌↔◌, IfSome, IsSome, List, Option, length, sum}
use Rattle.at_calling.specs.Prelude.{slots_of, BookTerms, HasSlot, account_of, TargetPair, Reply, IsPrefix, rounds, Publication, own_part, IsKept, SeatTerms, Knowledge, RECORD_WORDS, HasCounted, TotalSums, At, HelpingTerms, HasAllSettled, decides_made, decides_on, heard_on, HasTurned, SettlesInTurns, asking_steps, round_steps, newly_counted, SeesOwnRecords, snapshot_steps, IsWithinOneMore}
use Rattle.at_calling.specs.PayingShared.{AnswersInRound, DecidesFew, FollowsShare, IsShareWithin, MakesShareStep, PayingSharedTerms, settling_steps, share_exchanges_at, share_exchanges_made, share_steps, share_turns_left}
use Rattle.at_calling.specs.Reading.{LeavesTotals, counted_so_far, newly_seen}
use Rattle.at_calling.specs.Starting.{IsStartOf, StartingTerms, start_turns_left, start_turns_made}
use Rattle.at_calling.specs.Turning.{TurningTerms, help_turns_left, help_turns_made}
use Rattle.at_calling.specs.declared.share_stage.ShareStage.{ShareStage}
use Rattle.at_calling.specs.declared.share_stage.ShareStage.TheVariants.{Ended, Help, Start}
use Rattle.at_calling.specs.declared.paying_shared.PayingShared.TheInside.{Inside}

-- the terms of its fields
abbrev pub paying_shared_of : Inside → PayingSharedTerms
paying_shared_of p = record {
  account = p.account;
  targets = p.targets.value;
  stage = p.stage;
  turns = p.turns;
  start = p.start.value.knows;
  mark = p.mark.value.knows;
  was = p.was.value;
  totals = p.totals.value;
}

-- the start goes on
pub record IsStartingFirst (t : PayingSharedTerms) (s : StartingTerms) : Type 0 where
  pub account_is : s.account ≡ t.account
  pub targets_are : s.targets ≡ t.targets
  pub start_is : s.start ≡ t.start
  pub mark_is : s.mark ≡ t.mark
  pub was_is : s.was ≡ t.was
  pub totals_are : s.totals ≡ t.totals
  pub turns_are : t.turns ≡ start_turns_made s
  pub left : 0 < start_turns_left t.start.book s

-- a payment has started, and each turn of helping so far has made one exchange and published a round, of which fewer are left than the
-- account has owners
pub record HasHelped (b : BookTerms) (before now : Knowledge) (a : ℕ) (targets : List TargetPair) (h : HelpingTerms) : Type 0 where
  pub started : Knowledge
  pub start : IsStartOf b before started a targets h
  pub own : SeesOwnRecords started
  pub turned : HasTurned b h started (decides_made a before now) now
  pub few : decides_made a before now + 1 ≤ slots_of (account_of b a)
  pub heard : heard_on now a + decides_made a before now ≤ rounds a now.seen
  pub begins : IsPrefix before.seen now.seen
  pub process : now.first ≡ before.first
  pub decides : decides_on before a ≤ decides_on now a
  pub elsewhere : (c : ℕ) → c ≢ a → decides_on now c ≡ decides_on before c

-- the totals have counted all own records since, and so many turns were few
pub record HasCountedSo (b : BookTerms) (before now : Knowledge) (was counted : TotalSums) (a turns : ℕ) : Type 0 where
  pub published : (own_part before).published ≤ (own_part now).published
  pub more : sum was.upto + (own_part now).published ≤ sum counted.upto + (own_part before).published
  pub inside : sum counted.upto ≤ length now.seen
  pub few : turns ≤ snapshot_steps b.processes + asking_steps (slots_of (account_of b a))
      + decides_made a before now * (snapshot_steps b.processes + round_steps b.processes) + RECORD_WORDS * newly_counted before now was counted

-- a turn of helping goes on
pub record IsHelpingThen (t : PayingSharedTerms) (h : HelpingTerms) (u : TurningTerms) : Type 0 where
  pub helping_is : u.helping ≡ h
  pub mark_is : u.mark ≡ t.mark
  pub totals_are : u.totals ≡ t.totals
  pub left : 0 < help_turns_left t.start.book.processes u.stage
  pub helped : HasHelped t.start.book t.start u.start t.account t.targets h
  pub decides : decides_on u.start t.account ≤ decides_on u.mark t.account
  pub before : ℕ
  pub counted : HasCountedSo t.start.book t.start u.start t.was u.was t.account before
  pub turns_are : t.turns ≡ before + help_turns_made u

abbrev pub IsShareStageSo : PayingSharedTerms → ShareStage → Type 0
IsShareStageSo t (Start s) = IsStartingFirst t s
IsShareStageSo t (Help h u) = IsHelpingThen t h u
IsShareStageSo t Ended = Unit {0}

-- an owner has no request that waits but this one
pub record IsPayingSharedSo (t : PayingSharedTerms) : Type 0 where
  pub kept : IsKept t.start
  pub book : t.mark.book ≡ t.start.book
  pub settled : HasAllSettled t.start.book t.start t.account
  pub slot : ℕ
  pub slot_in : HasSlot t.start.book t.start.first t.account slot
  pub stage_so : IsShareStageSo t t.stage

-- what a turn leaves of the payment, in whichever stage it was: all but the stage and the count of turns, and what the seat knows and the
-- totals have counted, is as it was
pub record TakesShareTurn (b : BookTerms) (seen : List Publication) (t u : PayingSharedTerms) (before after : SeatTerms) (now : TotalSums) (answer : Option (Reply × At)) : Type 0 where
  pub account_is : u.account ≡ t.account
  pub targets_are : u.targets ≡ t.targets
  pub start_is : u.start ≡ t.start
  pub mark_is : u.mark ≡ after.knows
  pub was_is : u.was ≡ t.was
  pub totals_are : u.totals ≡ now
  pub turns : u.turns ≡ t.turns + 1
  pub step : MakesShareStep b seen t.stage before after now
  pub follows : FollowsShare b t.stage u.stage
  pub left : share_turns_left b u < share_turns_left b t
  pub so_far : IsShareWithin b u (newly_seen t.start after.knows t.was.upto)
  pub counting : IsWithinOneMore (share_steps b t.account) (counted_so_far t.start after.knows t.was.upto now.upto) u.turns
  pub begins : IsPrefix t.start.seen after.knows.seen
  pub decided : share_exchanges_made u ≡ decides_made t.account t.start after.knows
  pub exchanges_few : share_exchanges_made u ≤ slots_of (account_of b t.account)
  pub ends : IsSome answer ↔ (share_turns_left b u ≡ 0)
  pub pays : IfSome answer (AnswersInRound b t.start after.knows t.account t.targets)
  pub settles : IfSome answer (λ r. SettlesInTurns b t.start after.knows t.account t.targets)
  pub few : IfSome answer (λ r. DecidesFew b t.start after.knows t.account)
  pub counted : IfSome answer (λ r. HasCounted now b after.knows.seen)
  pub leaves : IfSome answer (λ r. LeavesTotals b t.start after.knows t.was now (settling_steps b t.account) u.turns)
  pub decides : share_exchanges_made u ≡ share_exchanges_made t + share_exchanges_at t.stage
