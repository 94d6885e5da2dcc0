-- What a step of a turn of helping leaves of it.
use Rattle.std.proofs.Common.{◌≡◌, ℕ, ◌+◌, ◌-◌, ◌*◌, ◌<◌, ◌≤◌, ◌↔◌, List, IfSome, IsSome, Option, None, length, refl, sym, ap, subst, ◌∙◌, arith}
use Rattle.at_calling.proofs.Prelude.{sum, BookTerms, IsPrefix-length, Publication, own_part, SeatTerms, Asking, Knowledge, Part, HasCounted, TotalSums, own_part-HasLoaded, HasAccount, decides_made, decides_on, round_steps, HelpTurn, More, first-HasLoaded, published-HasLoaded, HasLoaded, snapshot_steps, IsDecidingThen, IsLookingStill, IsTurnStageSo, IsTurningSo, TakesHelpStep, HasSameAsking, CountsOthersStill, LeavesTotals, counted_so_far, newly_seen, FollowsTurn, IsHelpOf, IsHelpWithin, LeavesSeat, MakesTurnStep, TurningTerms, WaitsOn, exchanges_at, help_steps, help_turns_in, help_turns_left, TurnStage, Decide, DecidingTerms, MakesRoundStep, NextOfRound, deciding_after, exchanges_in, exchange, record_word, IsWithin, IsWithinOneMore, LookingTerms, MakesLookLoad}
use Rattle.at_calling.proofs.PayingAloneLaws.{HasSameAsking-HasLoaded}
use Rattle.at_calling.proofs.TurningLaws.{IsHelpWithin-step, begins-step, decides_made-step, left_of_round-le, others-step, seen-step}
use Rattle.at_calling.specs.declared.turn_stage.TurnStage.TheVariants.{Look}
use Rattle.at_machines.specs.Deciding.NextOfRound.{request_word, nothing}

-- loads of lengths alone leave a seat so on an account
pub LeavesSeat-HasLoaded : (b : BookTerms) (v w : Knowledge) (a : ℕ) → 0 < length v.parts → HasLoaded b v w → (own_part v).held ≡ None → LeavesSeat v w a
LeavesSeat-HasLoaded b v w a part loads free =
    let own = own_part-HasLoaded b v w part loads in
    let same : HasSameAsking v w = HasSameAsking-HasLoaded b v w part loads in
    let decides : decides_on w a ≡ decides_on v a = ap (λ (k : Asking). k.decides) (same a) in
    record {
      heard = ap (λ (k : Asking). k.heard) (same a);
      free = ap (λ (q : Part). q.held) own ∙ free;
      begins = loads.more;
      process = first-HasLoaded b v w loads;
      decides_few = omega (arith, decides);
      decides_at_most = omega (arith, decides);
      decides_elsewhere = λ c other. ap (λ (k : Asking). k.decides) (same c);
      published = omega (arith, published-HasLoaded b v w part loads);
    }

-- a step makes one exchange at most
exchanges_in-le : (next : NextOfRound) → exchanges_in next ≤ 1
exchanges_in-le exchange = omega arith
exchanges_in-le (request_word d word) = omega arith
exchanges_in-le (record_word d word) = omega arith
exchanges_in-le nothing = omega arith

module _ (b : BookTerms) (seen : List Publication) (t : TurningTerms) (so : IsTurningSo t) (book : t.start.book ≡ b) (before after : SeatTerms) (now : TotalSums)
    (mark : Knowledge) (mark_is : mark ≡ after.knows) (totals : TotalSums) (totals_are : totals ≡ now) where
  abbrev a : ℕ
  a = t.helping.account

  abbrev w : Knowledge
  w = after.knows

  -- a step of the look
  module _ (l : LookingTerms) (is : t.stage ≡ Look l) (turns : ℕ) (made : turns ≡ l.turns + 1) (load : MakesLookLoad b seen l.stage before after now)
      (loads : HasLoaded b l.start w) (so_far : IsWithin b.processes l.was (length w.seen) turns)
      (so_counted : IsWithinOneMore (snapshot_steps b.processes) (sum now.upto - sum l.was.upto) turns) (more : sum l.was.upto ≤ sum now.upto) where
    looks : IsLookingStill t l
    looks = subst (IsTurnStageSo t) is so.stage_so

    pub loads-look : HasLoaded b t.start w
    loads-look = subst (λ (v : Knowledge). HasLoaded b v w) looks.start_is loads

    pub decides_on-look : decides_on w a ≡ decides_on t.start a
    decides_on-look = ap (λ (k : Asking). k.decides) (HasSameAsking-HasLoaded b t.start w (omega (arith, so.kept.one_part)) loads-look a)

    published : (own_part w).published ≡ (own_part t.start).published
    published = published-HasLoaded b t.start w (omega (arith, so.kept.one_part)) loads-look

    within : IsHelpWithin b.processes (decides_made a t.start w) (newly_seen t.start w t.was.upto) turns
    within =
        let so_far_on : IsWithin b.processes t.was (length w.seen) turns =
        subst (λ (s : TotalSums). IsWithin b.processes s (length w.seen) turns) looks.was_is so_far in
        omega (arith, so_far_on, published)

    counting : IsWithinOneMore (help_steps b.processes (decides_made a t.start w)) (counted_so_far t.start w t.was.upto now.upto) turns
    counting = omega (arith, so_counted, ap (λ (s : TotalSums). sum s.upto) looks.was_is, published)

    pub TakesHelpStep-look : (stage : TurnStage) (answer : Option HelpTurn) → help_turns_in turns stage ≡ turns
        → help_turns_left b.processes stage < help_turns_left b.processes (Look l)
        → (IsSome answer ↔ (help_turns_left b.processes stage ≡ 0)) → IfSome answer (IsHelpOf b t.start w t.helping)
        → IfSome answer (λ h. h ≡ More → WaitsOn b t.start w t.helping) → IfSome answer (λ h. LeavesSeat t.start w a)
        → IfSome answer (λ h. HasCounted now b w.seen)
        → IfSome answer (λ h. LeavesTotals b t.start w t.was now (round_steps b.processes * decides_made a t.start w) turns)
        → FollowsTurn b (Look l) stage
        → TakesHelpStep b seen t (record t { stage = stage; looked = turns; mark = mark; totals = totals }) before after now answer
    TakesHelpStep-look stage answer same left ends help waits seat counted leaves follows = record {
      helping_is = refl;
      start_is = refl;
      mark_is = mark_is;
      was_is = refl;
      totals_are = totals_are;
      turns = same ∙ (made ∙ ap (λ n. n + 1) (sym (ap (help_turns_in t.looked) is)));
      step = subst (λ (k : TurnStage). MakesTurnStep b seen k stage before after now) (sym is) load;
      follows = subst (λ (k : TurnStage). FollowsTurn b k stage) (sym is) follows;
      left = subst (λ (k : TurnStage). help_turns_left b.processes stage < help_turns_left b.processes k) (sym is) left;
      ends = ends;
      so_far = subst (IsHelpWithin b.processes (decides_made a t.start w) (newly_seen t.start w t.was.upto)) (sym same) within;
      decides_few = omega (arith, decides_on-look);
      once = omega (arith, decides_on-look);
      begins = loads-look.more;
      seen = IsPrefix-length t.start.seen w.seen loads-look.more;
      others = omega (arith, IsPrefix-length t.start.seen w.seen loads-look.more, published);
      counting = subst (IsWithinOneMore (help_steps b.processes (decides_made a t.start w)) (counted_so_far t.start w t.was.upto now.upto)) (sym same) counting;
      counts_others = omega (arith, more, ap (λ (s : TotalSums). sum s.upto) looks.was_is, published);
      published = omega (arith, published);
      help = help;
      waits = waits;
      seat = seat;
      counted = counted;
      leaves = subst (λ n. IfSome answer (λ h. LeavesTotals b t.start w t.was now (round_steps b.processes * decides_made a t.start w) n)) (sym same) leaves;
      decides = omega (arith, decides_on-look, looks.undecided, ap exchanges_at is);
    }

  -- a step of the round
  module _ (d e : DecidingTerms) (is : t.stage ≡ Decide d) (some : 0 < d.left) (has : HasAccount t.mark a) (known : before.knows ≡ t.mark)
      (after_is : e ≡ deciding_after d w e.next) (less : e.left + 1 ≡ d.left) (step : MakesRoundStep b d w e.next) where
    pub decides-decide : IsDecidingThen t d
    decides-decide = subst (IsTurnStageSo t) is so.stage_so some

    decided : decides_made a t.start w ≡ 1
    decided = decides_made-step b t d e w book decides-decide has some after_is less step

    pub TakesHelpStep-decide : (answer : Option HelpTurn)
        → IsWithinOneMore (help_steps b.processes (decides_made a t.start w)) (counted_so_far t.start w t.was.upto now.upto)
        (t.looked + (round_steps e.start.book.processes - e.left)) → CountsOthersStill t.start w t.was now
        → (own_part t.start).published ≤ (own_part w).published
        → (IsSome answer ↔ (e.left ≡ 0)) → IfSome answer (IsHelpOf b t.start w t.helping)
        → IfSome answer (λ h. h ≡ More → WaitsOn b t.start w t.helping) → IfSome answer (λ h. LeavesSeat t.start w a)
        → IfSome answer (λ h. HasCounted now b w.seen)
        → IfSome answer (λ h. LeavesTotals b t.start w t.was now (round_steps b.processes * decides_made a t.start w)
        (t.looked + (round_steps e.start.book.processes - e.left)))
        → TakesHelpStep b seen t (record t { stage = Decide e; mark = mark; totals = totals }) before after now answer
    TakesHelpStep-decide answer counting counts_others more ends help waits seat counted leaves = record {
      helping_is = refl;
      start_is = refl;
      mark_is = mark_is;
      was_is = refl;
      totals_are = totals_are;
      turns = omega (
        arith,
        less,
        decides-decide.left_is,
        left_of_round-le d.start.book.processes d.next,
        ap (λ (c : DecidingTerms). round_steps c.start.book.processes) after_is,
        ap (help_turns_in t.looked) is,
      );
      step = subst (λ (k : TurnStage). MakesTurnStep b seen k (Decide e) before after now) (sym is) (decides-decide.mark_is ∙ sym known, step);
      follows = subst (λ (k : TurnStage). FollowsTurn b k (Decide e)) (sym is) (e, w, refl, step);
      left = omega (arith, less, ap (help_turns_left b.processes) is);
      ends = ends;
      so_far = IsHelpWithin-step b t d e w book decides-decide has some after_is less step;
      decides_few = omega (arith, decided);
      once = omega (arith, decided);
      begins = begins-step b t d e w book decides-decide has some after_is less step;
      seen = seen-step b t d e w book decides-decide has some after_is less step;
      others = others-step b t d e w book decides-decide has some after_is less step;
      counting = counting;
      counts_others = counts_others;
      published = more;
      help = help;
      waits = waits;
      seat = seat;
      counted = counted;
      leaves = leaves;
      decides = omega (arith, decided, decides-decide.once, exchanges_in-le d.next, ap exchanges_at is);
    }
