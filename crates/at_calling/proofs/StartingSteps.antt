-- What a turn of a start leaves of it.
use Rattle.std.proofs.Common.{◌≡◌, ◌≢◌, ℕ, ◌+◌, ◌-◌, ◌<◌, ◌≤◌, ◌↔◌, List, IfSome, IsSome, Option, None, length, false, true, refl, sym, ap, subst, ◌∙◌, arith}
use Rattle.at_calling.proofs.Prelude.{sum, BookTerms, IsPrefix-trans, IsPrefix, Publication, SeatTerms, Asking, Knowledge, REQUEST_WORDS, StaysCounted, TotalSums, HelpingTerms, decides_on, AskingTerms, CollectingRowsTerms, MakesNextLoad, NextRowLoad, announced_word, request_word, nothing, IsWithin, IsWithinOneMore, LookingTerms, MakesLookLoad, IsAskingThen, IsCollectingThen, IsLookingToAsk, IsStartStageSo, IsStartingSo, TakesStartTurn, published-HasLoaded, HasLoaded, snapshot_steps, LeavesTotals, counted_so_far, newly_seen, FollowsStart, HasSameCounts, IsStartOf, IsStartWithin, MakesStartStep, StartingTerms, asking_steps_of, start_steps, start_turns_after, start_turns_in, unless_ended, StartStage, Ask, Collect}
use Rattle.at_calling.proofs.PayingAloneLaws.{HasSameAsking-HasLoaded}
use Rattle.at_calling.proofs.StartingLaws.{HasSameCounts-rows, HasSlot-IsStartingSo, IsStartWithin-HasLookedToAsk, IsStartWithin-IsCollectingThen, StaysCounted-HasLookedToAsk, StaysCounted-IsCollectingThen, counting-HasLookedToAsk, counting-IsCollectingThen, more-rows, start_after, start_after_look}
use Rattle.at_calling.specs.declared.start_stage.StartStage.TheVariants.{Look}

-- at most so many are left
unless_ended-le : (most : ℕ) (next : NextRowLoad) → unless_ended most next ≤ most
unless_ended-le most announced_word = omega arith
unless_ended-le most (request_word number word) = omega arith
unless_ended-le most nothing = omega arith

-- all of them, where a load comes next
unless_ended-goes : (most : ℕ) (next : NextRowLoad) → next ≢ nothing → unless_ended most next ≡ most
unless_ended-goes most announced_word goes = refl
unless_ended-goes most (request_word number word) goes = refl
unless_ended-goes most nothing goes = absurd (goes refl)

-- and none only where none does
unless_ended-none : (most : ℕ) (next : NextRowLoad) → 0 < most → unless_ended most next ≡ 0 → next ≡ nothing
unless_ended-none most announced_word some none = absurd (omega (arith, some, none))
unless_ended-none most (request_word number word) some none = absurd (omega (arith, some, none))
unless_ended-none most nothing some none = refl

module _ (b : BookTerms) (seen : List Publication) (t : StartingTerms) (so : IsStartingSo t) (book : t.start.book ≡ b) (before after : SeatTerms) (mark : Knowledge)
    (mark_is : mark ≡ after.knows) where
  abbrev most : ℕ
  most = asking_steps_of b t

  -- a turn of the look
  module _ (now totals : TotalSums) (totals_are : totals ≡ now) (l : LookingTerms) (is : t.stage ≡ Look l) (turns : ℕ) (made : turns ≡ l.turns + 1)
      (load : MakesLookLoad b seen l.stage before after now) (loads : HasLoaded b l.start after.knows) (counted : StaysCounted now b after.knows.seen)
      (so_far : IsWithin b.processes l.was (length after.knows.seen) turns)
      (so_counted : IsWithinOneMore (snapshot_steps b.processes) (sum now.upto - sum l.was.upto) turns) where
    looks : IsLookingToAsk t l
    looks = subst (IsStartStageSo t) is so.stage_so

    loads_on : HasLoaded b t.start after.knows
    loads_on = subst (λ (v : Knowledge). HasLoaded b v after.knows) looks.start_is loads

    within : (stage : StartStage) → start_turns_in turns stage ≡ turns → IsStartWithin b (start_after_look t stage mark totals turns) (newly_seen t.start after.knows t.was.upto)
    within stage same =
        let so_far_on : IsWithin b.processes t.was (length after.knows.seen) turns =
        subst (λ (s : TotalSums). IsWithin b.processes s (length after.knows.seen) turns) looks.was_is so_far in
        omega (arith, so_far_on, same, published-HasLoaded b t.start after.knows (omega (arith, so.kept.one_part)) loads_on)

    counting : IsWithinOneMore (start_steps b t) (counted_so_far t.start after.knows t.was.upto now.upto) turns
    counting =
        omega (
          arith,
          so_counted,
          ap (λ (s : TotalSums). sum s.upto) looks.was_is,
          published-HasLoaded b t.start after.knows (omega (arith, so.kept.one_part)) loads_on,
        )

    pub TakesStartTurn-look : (stage : StartStage) → start_turns_in turns stage ≡ turns → 0 < start_turns_after most stage
        → start_turns_after most stage < start_turns_after most (Look l) → FollowsStart b (Look l) stage
        → TakesStartTurn b seen t (start_after_look t stage mark totals turns) before after now None
    TakesStartTurn-look stage same some left follows = record {
      account_is = refl;
      targets_are = refl;
      start_is = refl;
      mark_is = mark_is;
      was_is = refl;
      totals_are = totals_are;
      turns = same ∙ (made ∙ ap (λ n. n + 1) (sym (ap (start_turns_in t.looked) is)));
      step = subst (λ (k : StartStage). MakesStartStep b seen k before after now) (sym is) load;
      follows = subst (λ (k : StartStage). FollowsStart b k stage) (sym is) follows;
      counted = counted;
      left = subst (λ (k : StartStage). start_turns_after most stage < start_turns_after most k) (sym is) left;
      so_far = within stage same;
      counting = subst (IsWithinOneMore (start_steps b t) (counted_so_far t.start after.knows t.was.upto now.upto)) (sym same) counting;
      ends = (λ has. let wrong : false ≡ true = has in absurd (cc wrong), λ none. absurd (omega (arith, some, none)));
      begins = loads_on.more;
      undecided = ap (λ (q : Asking). q.decides) (HasSameAsking-HasLoaded b t.start after.knows (omega (arith, so.kept.one_part)) loads_on t.account);
      starts = tt;
      leaves = tt;
    }

  -- a store of the request, or its announcement
  module _ (a : AskingTerms) (is : t.stage ≡ Ask a) (same_counts : HasSameCounts t.start after.knows a.account)
      (more : IsPrefix a.start.seen after.knows.seen) where
    asks : IsAskingThen t a
    asks = subst (IsStartStageSo t) is so.stage_so

    pub TakesStartTurn-ask : (stage : StartStage) → start_turns_in t.looked stage ≡ t.looked + a.stored + 1
        → MakesStartStep b seen (Ask a) before after t.totals → 0 < start_turns_after most stage
        → start_turns_after most stage < start_turns_after most (Ask a) → FollowsStart b (Ask a) stage
        → TakesStartTurn b seen t (start_after t stage mark) before after t.totals None
    TakesStartTurn-ask stage same step some left follows = record {
      account_is = refl;
      targets_are = refl;
      start_is = refl;
      mark_is = mark_is;
      was_is = refl;
      totals_are = refl;
      turns = same ∙ ap (λ n. n + 1) (sym (ap (start_turns_in t.looked) is));
      step = subst (λ (k : StartStage). MakesStartStep b seen k before after t.totals) (sym is) step;
      follows = subst (λ (k : StartStage). FollowsStart b k stage) (sym is) follows;
      counted = subst (λ (k : BookTerms). StaysCounted t.totals k after.knows.seen) book
          (StaysCounted-HasLookedToAsk t so a.start a.account a.targets a.since asks.to_ask after.knows same_counts more);
      left = subst (λ (k : StartStage). start_turns_after most stage < start_turns_after most k) (sym is) left;
      so_far = subst (λ (k : BookTerms). IsStartWithin k (start_after t stage after.knows) (newly_seen t.start after.knows t.was.upto)) book
          (IsStartWithin-HasLookedToAsk t so a.start a.account a.targets a.since asks.to_ask after.knows same_counts more stage
          (omega (arith, same, asks.left, (HasSlot-IsStartingSo t so).within)));
      counting = subst (λ (k : BookTerms). IsWithinOneMore (start_steps k t) (counted_so_far t.start after.knows t.was.upto t.totals.upto)
          (start_turns_in t.looked stage)) book
          (counting-HasLookedToAsk t so a.start a.account a.targets a.since asks.to_ask after.knows same_counts more stage
          (omega (arith, same, asks.left, (HasSlot-IsStartingSo t so).within)));
      ends = (λ has. let wrong : false ≡ true = has in absurd (cc wrong), λ none. absurd (omega (arith, some, none)));
      begins = IsPrefix-trans t.start.seen a.start.seen after.knows.seen asks.to_ask.looked_at.loads.more more;
      undecided = subst (λ n. decides_on after.knows n ≡ decides_on t.start n) asks.to_ask.account_is same_counts.decides;
      starts = tt;
      leaves = tt;
    }

  -- a load of the rows
  module _ (c next : CollectingRowsTerms) (is : t.stage ≡ Collect c) (goes : c.next ≢ nothing) (made : next.made ≡ c.made + 1)
      (same_counts : HasSameCounts c.mark after.knows c.account) (more : IsPrefix c.mark.seen after.knows.seen) (few : REQUEST_WORDS + next.made < asking_steps_of t.start.book t) where
    collects : IsCollectingThen t c
    collects = subst (IsStartStageSo t) is so.stage_so

    few_on : REQUEST_WORDS + next.made < most
    few_on = subst (λ (k : BookTerms). REQUEST_WORDS + next.made < asking_steps_of k t) book few

    abbrev left_at_most : ℕ
    left_at_most = most - (REQUEST_WORDS + next.made)

    less : start_turns_after most (Collect next) < start_turns_after most (Collect c)
    less =
        omega (
          arith,
          unless_ended-le left_at_most next.next,
          unless_ended-goes (most - (REQUEST_WORDS + c.made)) c.next goes,
          made,
          few_on,
        )

    pub TakesStartTurn-collect : (answer : Option HelpingTerms) → MakesStartStep b seen (Collect c) before after t.totals
        → (IsSome answer ↔ (next.next ≡ nothing)) → IfSome answer (IsStartOf b t.start after.knows t.account t.targets)
        → IfSome answer (λ h. LeavesTotals b t.start after.knows t.was t.totals most (start_turns_in t.looked (Collect next)))
        → MakesNextLoad b c next
        → TakesStartTurn b seen t (start_after t (Collect next) mark) before after t.totals answer
    TakesStartTurn-collect answer step ends starts leaves follows = record {
      account_is = refl;
      targets_are = refl;
      start_is = refl;
      mark_is = mark_is;
      was_is = refl;
      totals_are = refl;
      turns = omega (arith, made, ap (start_turns_in t.looked) is);
      step = subst (λ (k : StartStage). MakesStartStep b seen k before after t.totals) (sym is) step;
      follows = subst (λ (k : StartStage). FollowsStart b k (Collect next)) (sym is) (next, refl, follows);
      counted = subst (λ (k : BookTerms). StaysCounted t.totals k after.knows.seen) book (StaysCounted-IsCollectingThen t so c collects after.knows same_counts more);
      left = subst (λ (k : StartStage). start_turns_after most (Collect next) < start_turns_after most k) (sym is) less;
      so_far = subst (λ (k : BookTerms). IsStartWithin k (start_after t (Collect next) after.knows) (newly_seen t.start after.knows t.was.upto)) book
          (IsStartWithin-IsCollectingThen t so c collects after.knows (Collect next) same_counts more (omega (arith, few)));
      counting = subst (λ (k : BookTerms). IsWithinOneMore (start_steps k t) (counted_so_far t.start after.knows t.was.upto t.totals.upto)
          (start_turns_in t.looked (Collect next))) book
          (counting-IsCollectingThen t so c collects after.knows (Collect next) same_counts more (omega (arith, few)));
      ends = (
        λ some. ap (unless_ended left_at_most) (ends.0 some),
        λ none. ends.1 (unless_ended-none left_at_most next.next (omega (arith, few_on)) none),
      );
      begins = IsPrefix-trans t.start.seen collects.looked.seen after.knows.seen collects.to_ask.looked_at.loads.more
          (more-rows t so c collects after.knows more);
      undecided = subst (λ n. decides_on after.knows n ≡ decides_on t.start n) collects.to_ask.account_is
          (HasSameCounts-rows t so c collects after.knows same_counts).decides;
      starts = starts;
      leaves = leaves;
    }
