use Rattle.std.proofs.Common.{refl, None, ◌≡◌, ℕ, ◌<◌, List, length, sym, ap, subst, ◌∙◌, arith}
use Rattle.at_calling.proofs.Prelude.{sum, BookTerms, TargetPair, place, AreTargets, SeatTerms, Knowledge, TotalSums, MayAskFor, asked_for, HasLooked, AskingTerms, starting_to_ask, IsLookingToAsk, IsStartStageSo, IsStartingSo, TakesStartTurn, IsWithin, LookingTerms, FollowsStart, StartingTerms, asking_steps_of, start_turns_after, start_turns_in, the_view, StartStage, Ask}
use Rattle.at_calling.proofs.StartingLaws.{IsStartingSo-ask, MayAskFor-HasLooked, place-HasLooked-few, slot_of_start, start_after_look}
use Rattle.at_calling.proofs.StartingSteps.{TakesStartTurn-look}
use Rattle.at_calling.specs.declared.start_stage.StartStage.TheVariants.{Look}
use Rattle.at_calling.proofs.starting.Starting.look_on.Goals.{After-self, After-copy-targets, After-turn-looked}
use Rattle.at_calling.proofs.starting.Starting.look_on.Goals as goal

-- what the seat knew is what the last turn left
known_before : (c : After-self) → c.args.seat.now.knows ≡ c.self.inside.mark.value.knows
known_before c = c.requires.mark ∙ sym (ap (λ (t : StartingTerms). t.mark) c.self.view_is)

-- its seat is the board's
book : (c : After-self) → c.args.board.now.book ≡ c.self.inside.start.value.knows.book
book c = sym c.requires.board.book ∙ (ap (λ (v : Knowledge). v.book) (known_before c) ∙ c.self.invariant.book)

-- the look has ended
looked : (c : After-copy-targets)
    → HasLooked c.self.inside.start.value.knows.book c.self.inside.start.value.knows c.turn-looked.new.seat.knows c.self.inside.was.value c.turn-looked.new.totals
    c.in_ok-cut.cut
looked c =
    let at = (goal.at.After-copy-targets c).After-self in
    let t : StartingTerms = the_view c.self.inside in
    let w : Knowledge = c.turn-looked.new.seat.knows in
    let now : TotalSums = c.turn-looked.new.totals in
    let cut : List ℕ = c.in_ok-cut.cut in
    let so : IsLookingToAsk t c.in-Look.looking = subst (IsStartStageSo t) c.in-Look.is c.self.invariant.stage_so in
    subst (λ (b : BookTerms). HasLooked b t.start w t.was now cut) (book at)
    (subst (λ (v : Knowledge). HasLooked c.args.board.now.book v w t.was now cut) so.start_is
    (subst (λ (s : TotalSums). HasLooked c.args.board.now.book c.in-Look.looking.start w s now cut) so.was_is c.in_ok-cut.ensures.looked))

pub asking_at-asking-requires-clause-place : goal.asking_at-asking-requires-clause-place
asking_at-asking-requires-clause-place c =
    let at = (goal.at.asking_at-asking-requires-clause-place c).After-copy-targets in
    omega (
      arith,
      place-HasLooked-few (the_view c.self.inside) c.self.invariant c.turn-looked.new.seat.knows c.turn-looked.new.totals c.in_ok-cut.cut (looked at),
    )

pub asking_at-asking-requires-clause-may : goal.asking_at-asking-requires-clause-may
asking_at-asking-requires-clause-may c =
    let at = (goal.at.asking_at-asking-requires-clause-may c).After-copy-targets in
    let t : StartingTerms = the_view c.self.inside in
    let so : IsStartingSo t = c.self.invariant in
    let w : Knowledge = c.turn-looked.new.seat.knows in
    let cut : List ℕ = c.in_ok-cut.cut in
    let ts : List TargetPair = c.copy-targets.result in
    let slot = slot_of_start t so in
    let has_looked = looked at in
    let are : AreTargets t.start.book ts = subst (AreTargets t.start.book) (sym c.copy-targets.ensures) so.targets_in in
    let here : MayAskFor t.start.book w t.account slot (asked_for ts (place cut)) =
    MayAskFor-HasLooked t so w c.turn-looked.new.totals cut has_looked ts are in (
      slot,
      subst (λ (b : BookTerms). MayAskFor b w t.account slot (asked_for ts (place cut))) (sym (ap (λ (v : Knowledge). v.book) has_looked.loads.same)) here,
    )

pub invariant_of-self-2 : goal.invariant_of-self-2
invariant_of-self-2 c =
    let at = (goal.at.invariant_of-self-2 c).After-copy-targets in
    let first = (goal.at.After-copy-targets at).After-self in
    let t : StartingTerms = the_view c.self.inside in
    let w : Knowledge = c.turn-looked.new.seat.knows in
    let now : TotalSums = c.turn-looked.new.totals in
    let cut : List ℕ = c.in_ok-cut.cut in
    let ts : List TargetPair = c.copy-targets.result in
    let turns : ℕ = c.turn-looked.new.self.turns in
    let so : IsLookingToAsk t c.in-Look.looking = subst (IsStartStageSo t) c.in-Look.is c.self.invariant.stage_so in
    let stage : StartStage = Ask (starting_to_ask w t.account ts (place cut)) in
    let stage_is : c.become_next.new.stage ≡ stage =
    c.become_next.ensures ∙ ap (λ (a : AskingTerms). Ask a) c.asking_at-asking.ensures in
    let few : IsWithin t.start.book.processes t.was (sum cut) turns =
    subst (λ (b : BookTerms). IsWithin b.processes t.was (sum cut) turns) (book first)
    (subst (λ (s : TotalSums). IsWithin c.args.board.now.book.processes s (sum cut) turns) so.was_is c.in_ok-cut.ensures.within) in
    let here : IsStartingSo (start_after_look t stage w now turns) =
    IsStartingSo-ask t c.self.invariant w now cut (looked at) ts turns c.copy-targets.ensures few in
    subst (λ (s : StartStage). IsStartingSo (start_after_look t s c.of.result.value.knows c.of-2.result.value c.turns-self-inside.result)) (sym stage_is)
    (subst (λ n. IsStartingSo (start_after_look t stage c.of.result.value.knows c.of-2.result.value n)) (sym c.turns-self-inside.ensures)
    (subst (λ (s : SeatTerms). IsStartingSo (start_after_look t stage s.knows c.of-2.result.value turns)) (sym c.of.ensures)
    (subst (λ (n : TotalSums). IsStartingSo (start_after_look t stage w n turns)) (sym c.of-2.ensures) here)))

-- the look goes on
looks : (c : After-turn-looked) → IsLookingToAsk (the_view c.self.inside) c.in-Look.looking
looks c = subst (IsStartStageSo (the_view c.self.inside)) c.in-Look.is c.self.invariant.stage_so

-- what the turn leaves, with whichever stage next
turned : (c : After-turn-looked) (turns : ℕ) → turns ≡ c.turn-looked.new.self.turns → (mark : SeatTerms) → mark ≡ c.turn-looked.new.seat
    → (totals : TotalSums) → totals ≡ c.turn-looked.new.totals → (stage : StartStage) → start_turns_in turns stage ≡ turns
    → 0 < start_turns_after (asking_steps_of c.args.board.now.book (the_view c.self.inside)) stage
    → start_turns_after (asking_steps_of c.args.board.now.book (the_view c.self.inside)) stage
    < start_turns_after (asking_steps_of c.args.board.now.book (the_view c.self.inside)) (Look c.in-Look.looking)
    → FollowsStart c.args.board.now.book (Look c.in-Look.looking) stage
    → TakesStartTurn c.args.board.now.book c.args.overview.now.seen c.args.self.now (start_after_look (the_view c.self.inside) stage mark.knows totals turns) c.args.seat.now
    c.turn-looked.new.seat c.turn-looked.new.totals None
turned c turns turns_are mark mark_is totals totals_are stage same some left follows =
    let b : BookTerms = c.args.board.now.book in
    let t : StartingTerms = the_view c.self.inside in
    let after : SeatTerms = c.turn-looked.new.seat in
    let now : TotalSums = c.turn-looked.new.totals in
    let l : LookingTerms = c.in-Look.looking in
    let told = c.turn-looked.ensures in
    subst (λ (s : StartingTerms). TakesStartTurn b c.args.overview.now.seen s (start_after_look t stage mark.knows totals turns) c.args.seat.now after now None) c.self.view_is
    (TakesStartTurn-look b c.args.overview.now.seen t c.self.invariant (sym (book (goal.at.After-turn-looked c).After-self)) c.args.seat.now after mark.knows
    (ap (λ (m : SeatTerms). m.knows) mark_is) now totals totals_are l c.in-Look.is turns (turns_are ∙ told.turns) told.load told.loads told.counted
    (subst (IsWithin b.processes l.was (length after.knows.seen)) (sym turns_are) told.so_far) (omega (arith, told.counting, turns_are)) stage same some left follows)

pub returns-in_err-cut-clause-turned : goal.returns-in_err-cut-clause-turned
returns-in_err-cut-clause-turned c =
    let at = (goal.at.returns-in_err-cut-clause-turned c).After-turn-looked in
    let next : StartStage = Look c.turn-looked.new.self in
    subst (TakesStartTurn c.args.board.now.book c.args.overview.now.seen c.args.self.now
    (start_after_look (the_view c.self.inside) next c.of.result.value.knows c.of-2.result.value c.turns-self-inside.result) c.args.seat.now
    c.turn-looked.new.seat c.turn-looked.new.totals) (sym c.from_residual.ensures)
    (turned at c.turns-self-inside.result c.turns-self-inside.ensures c.of.result.value c.of.ensures c.of-2.result.value c.of-2.ensures next
    (sym c.turns-self-inside.ensures) (omega arith) (omega (arith, c.turn-looked.ensures.left)) c.turn-looked.ensures.follows)

pub returns-clause-turned : goal.returns-clause-turned
returns-clause-turned c =
    let at = (goal.at.returns-clause-turned c).After-turn-looked in
    let a : AskingTerms = c.asking_at-asking.result in
    let none : a.stored ≡ 0 = ap (λ (x : AskingTerms). x.stored) c.asking_at-asking.ensures in
    subst (λ (k : StartStage). TakesStartTurn c.args.board.now.book c.args.overview.now.seen c.args.self.now
    (start_after_look (the_view c.self.inside) k c.of.result.value.knows c.of-2.result.value c.turns-self-inside.result) c.args.seat.now
    c.turn-looked.new.seat c.turn-looked.new.totals None) (sym c.become_next.ensures)
    (turned at c.turns-self-inside.result c.turns-self-inside.ensures c.of.result.value c.of.ensures c.of-2.result.value c.of-2.ensures (Ask a)
    (omega (arith, none)) (omega (arith, none)) (omega (arith, none, (looks at).left))
    ((c.turn-looked.new.self.stage, c.turn-looked.ensures.follows, c.in_ok-cut.ensures.ends.0 refl), none))
