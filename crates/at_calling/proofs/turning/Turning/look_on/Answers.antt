use Rattle.std.proofs.Common.{◌↔◌, IfSome, IsSome, Option, None, Some, true, refl, ◌≡◌, ℕ, ◌*◌, ◌<◌, List, length, false, sym, ap, subst, ◌∙◌, arith}
use Rattle.at_calling.proofs.Prelude.{sum, BookTerms, prefix_of, is_settled, own_part, SeatTerms, Asking, Knowledge, IsDecidedIn, CountsCut, CountsSlot, HasCounted, TotalSums, HasAccount, HasAccount-IsSeat, IsHelpingAt-turn, HelpingTerms, IsHelping, decides_made, round_steps, HasSameAsking, TurnStage, HelpTurn, Settled, More, CountsAccount-HasLooked, CountsCut-HasLooked, HasCounted-HasLooked, published-HasLoaded, HasLooked, DecidingTerms, starting_deciding, IsLookingStill, IsTurnStageSo, IsTurningSo, TakesHelpStep, IsWithin, LeavesTotals, FollowsTurn, IsHelpOf, LeavesSeat, TurningTerms, WaitsOn, help_turns_in, help_turns_left, Decide, Found}
use Rattle.at_calling.proofs.PayingAloneLaws.{HasSameAsking-HasLoaded, sum-HasLooked-le}
use Rattle.at_calling.proofs.ReadingLaws.{LeavesTotals-HasLooked}
use Rattle.at_calling.proofs.TurningSteps.{LeavesSeat-HasLoaded, TakesHelpStep-look}
use Rattle.at_calling.proofs.TurningLaws.{IsHelpOf-found}
use Rattle.at_calling.specs.contracts.turning.Turning.{the_view}
use Rattle.at_calling.specs.declared.turn_stage.TurnStage.TheVariants.{Look}
use Rattle.at_calling.proofs.turning.Turning.look_on.Goals.{After-known, After-self, After-answer_in, After-start-deciding, After-turn-looked}
use Rattle.at_calling.proofs.turning.Turning.look_on.Goals as goal

-- the board's book is that of the start
book : (c : After-self) → c.self.inside.start.value.knows.book ≡ c.args.board.now.book
book c =
    sym c.self.invariant.book
    ∙ (ap (λ (t : TurningTerms). t.mark.book) c.self.view_is ∙ (ap (λ (v : Knowledge). v.book) (sym c.requires.mark) ∙ c.requires.board.book))

-- the request is the one that the turn of helping was started with
helping : (c : After-self) → c.self.inside.helping.value ≡ c.args.helping.now
helping c = ap (λ (t : TurningTerms). t.helping) c.self.view_is ∙ sym c.requires.helping

-- and it waited then
waits : (c : After-self) → IsHelping c.args.board.now.book c.self.inside.start.value.knows c.args.helping.now
waits c =
    let v : Knowledge = c.self.inside.start.value.knows in
    subst (λ (b : BookTerms). IsHelping b v c.args.helping.now) (book c) (subst (IsHelping v.book v) (helping c) c.self.invariant.helping)

-- the seat had something on the account
has_account : (c : After-self) → HasAccount c.self.inside.start.value.knows c.args.helping.now.account
has_account c =
    let v : Knowledge = c.self.inside.start.value.knows in
    HasAccount-IsSeat v v.first (own_part v).published c.args.helping.now.account c.self.invariant.kept
    (subst (λ (b : BookTerms). c.args.helping.now.account < length b.accounts) (sym (book c)) (waits c).asked.slot_in.account_in)

-- the look goes on
looks : (c : After-turn-looked) → IsLookingStill (the_view c.self.inside) c.in-Look.looking
looks c = subst (IsTurnStageSo (the_view c.self.inside)) c.in-Look.is c.self.invariant.stage_so

-- the look has ended
looked : (c : After-known)
    → HasLooked c.args.board.now.book c.self.inside.start.value.knows c.turn-looked.new.seat.knows c.self.inside.was.value c.turn-looked.new.totals
    c.in_ok-cut.cut
looked c =
    let at = (goal.at.After-known c).After-turn-looked in
    let b : BookTerms = c.args.board.now.book in
    let w : Knowledge = c.turn-looked.new.seat.knows in
    let now : TotalSums = c.turn-looked.new.totals in
    let cut : List ℕ = c.in_ok-cut.cut in
    subst (λ (v : Knowledge). HasLooked b v w c.self.inside.was.value now cut) (looks at).start_is
    (subst (λ (s : TotalSums). HasLooked b c.in-Look.looking.start w s now cut) (looks at).was_is c.in_ok-cut.ensures.looked)

-- the totals have counted the slot, up to the cut
counts_slot : (c : After-known)
    → CountsSlot c.turn-looked.new.totals c.args.board.now.book c.turn-looked.new.seat.knows.seen c.args.helping.now.account c.args.helping.now.own.slot
counts_slot c =
    let asked = (waits (goal.at.After-known c).After-self).asked in
    record {
      account = CountsAccount-HasLooked c.args.board.now.book c.self.inside.start.value.knows c.turn-looked.new.seat.knows c.self.inside.was.value
          c.turn-looked.new.totals c.in_ok-cut.cut c.args.helping.now.account (looked c) asked.slot_in.account_in;
      slot_in = asked.slot_in.within;
    }

counts_cut : (c : After-known)
    → CountsCut c.turn-looked.new.totals c.args.board.now.book c.turn-looked.new.seat.knows.seen
counts_cut c =
    CountsCut-HasLooked c.args.board.now.book c.self.inside.start.value.knows c.turn-looked.new.seat.knows c.self.inside.was.value c.turn-looked.new.totals
    c.in_ok-cut.cut (looked c)

has_counted : (c : After-known)
    → HasCounted c.turn-looked.new.totals c.args.board.now.book c.turn-looked.new.seat.knows.seen
has_counted c =
    HasCounted-HasLooked c.args.board.now.book c.self.inside.start.value.knows c.turn-looked.new.seat.knows c.self.inside.was.value c.turn-looked.new.totals
    c.in_ok-cut.cut (looked c)

pub settled-requires : goal.settled-requires
settled-requires c = (
  c.args.board.now.book,
  c.turn-looked.new.seat.knows.seen,
  counts_slot (goal.at.settled-requires c).After-known,
  (waits (goal.at.settled-requires c).After-self).room,
)

-- what was found was decided at the cut
found : (c : After-answer_in) → IsDecidedIn (prefix_of c.in_ok-cut.cut c.turn-looked.new.seat.knows.seen)
    c.args.helping.now.account c.args.helping.now.own.slot c.args.helping.now.own.number c.in-Some.round c.in-Some.decision
found c =
    let at = (goal.at.After-answer_in c).After-known in
    let h : HelpingTerms = c.args.helping.now in
    let b : BookTerms = c.args.board.now.book in
    let seen = c.turn-looked.new.seat.knows.seen in
    subst (λ f. IsDecidedIn (prefix_of f seen) h.account h.own.slot h.own.number c.in-Some.round c.in-Some.decision) (looked at).upto
    (c.in-Some.ensures.cut b seen (counts_slot at) (waits (goal.at.After-answer_in c).After-self).room (counts_cut at))

-- what the step leaves, with whichever stage next
stepped : (c : After-turn-looked) (turns : ℕ) → turns ≡ c.turn-looked.new.self.turns → (mark : SeatTerms) → mark ≡ c.turn-looked.new.seat
    → (totals : TotalSums) → totals ≡ c.turn-looked.new.totals → (stage : TurnStage) (answer : Option HelpTurn) → help_turns_in turns stage ≡ turns
    → help_turns_left c.args.board.now.book.processes stage < help_turns_left c.args.board.now.book.processes (Look c.in-Look.looking)
    → (IsSome answer ↔ (help_turns_left c.args.board.now.book.processes stage ≡ 0))
    → IfSome answer (IsHelpOf c.args.board.now.book c.self.inside.start.value.knows c.turn-looked.new.seat.knows c.self.inside.helping.value)
    → IfSome answer (λ h. h ≡ More
    → WaitsOn c.args.board.now.book c.self.inside.start.value.knows c.turn-looked.new.seat.knows c.self.inside.helping.value)
    → IfSome answer (λ h. LeavesSeat c.self.inside.start.value.knows c.turn-looked.new.seat.knows c.self.inside.helping.value.account)
    → IfSome answer (λ h. HasCounted c.turn-looked.new.totals c.args.board.now.book c.turn-looked.new.seat.knows.seen)
    → IfSome answer (λ h. LeavesTotals c.args.board.now.book c.self.inside.start.value.knows c.turn-looked.new.seat.knows c.self.inside.was.value
    c.turn-looked.new.totals (round_steps c.args.board.now.book.processes
    * decides_made c.self.inside.helping.value.account c.self.inside.start.value.knows c.turn-looked.new.seat.knows) turns)
    → FollowsTurn c.args.board.now.book (Look c.in-Look.looking) stage
    → TakesHelpStep c.args.board.now.book c.args.overview.now.seen c.args.self.now
    (record (the_view c.self.inside) { stage = stage; looked = turns; mark = mark.knows; totals = totals }) c.args.seat.now c.turn-looked.new.seat
    c.turn-looked.new.totals answer
stepped c turns turns_are mark mark_is totals totals_are stage answer same left ends help waits seat counted leaves follows =
    let b : BookTerms = c.args.board.now.book in
    let t : TurningTerms = the_view c.self.inside in
    let after : SeatTerms = c.turn-looked.new.seat in
    let now : TotalSums = c.turn-looked.new.totals in
    let told = c.turn-looked.ensures in
    subst (λ (s : TurningTerms). TakesHelpStep b c.args.overview.now.seen s (record t { stage = stage; looked = turns; mark = mark.knows; totals = totals }) c.args.seat.now after now answer)
    c.self.view_is
    (TakesHelpStep-look b c.args.overview.now.seen t c.self.invariant (book (goal.at.After-turn-looked c).After-self) c.args.seat.now after now mark.knows
    (ap (λ (m : SeatTerms). m.knows) mark_is) totals totals_are c.in-Look.looking c.in-Look.is turns (turns_are ∙ told.turns) told.load told.loads
    (subst (IsWithin b.processes c.in-Look.looking.was (length after.knows.seen)) (sym turns_are) told.so_far)
    (omega (arith, told.counting, turns_are)) told.more stage answer same left ends help waits seat counted leaves follows)

pub returns-in_err-cut-clause-stepped : goal.returns-in_err-cut-clause-stepped
returns-in_err-cut-clause-stepped c =
    let at = (goal.at.returns-in_err-cut-clause-stepped c).After-turn-looked in
    let next : TurnStage = Look c.turn-looked.new.self in
    subst (TakesHelpStep c.args.board.now.book c.args.overview.now.seen c.args.self.now
    (record (the_view c.self.inside) { stage = next; looked = c.turns-self-inside.result; mark = c.of.result.value.knows; totals = c.of-2.result.value }) c.args.seat.now
    c.turn-looked.new.seat c.turn-looked.new.totals) (sym c.from_residual.ensures)
    (stepped at c.turns-self-inside.result c.turns-self-inside.ensures c.of.result.value c.of.ensures c.of-2.result.value c.of-2.ensures next None (sym c.turns-self-inside.ensures)
    (omega (arith, c.turn-looked.ensures.left)) (λ some. let wrong : false ≡ true = some in absurd (cc wrong), λ none. absurd (omega (arith, none))) tt tt tt tt tt c.turn-looked.ensures.follows)

-- nothing was decided meanwhile
leaves_found : (c : After-known) → LeavesTotals c.args.board.now.book c.self.inside.start.value.knows c.turn-looked.new.seat.knows
    c.self.inside.was.value c.turn-looked.new.totals (round_steps c.args.board.now.book.processes
    * decides_made c.self.inside.helping.value.account c.self.inside.start.value.knows c.turn-looked.new.seat.knows) c.turns-self-inside.result
leaves_found c =
    let at = (goal.at.After-known c).After-turn-looked in
    let b : BookTerms = c.args.board.now.book in
    let t : TurningTerms = the_view c.self.inside in
    let w : Knowledge = c.turn-looked.new.seat.knows in
    let cut : List ℕ = c.in_ok-cut.cut in
    let few : IsWithin b.processes t.was (sum cut) c.turn-looked.new.self.turns =
    subst (λ (s : TotalSums). IsWithin b.processes s (sum cut) c.turn-looked.new.self.turns) (looks at).was_is c.in_ok-cut.ensures.within in
    let same : HasSameAsking t.start w = HasSameAsking-HasLoaded b t.start w (omega (arith, c.self.invariant.kept.one_part)) (looked c).loads in
    let none : decides_made t.helping.account t.start w ≡ 0 = omega (arith, ap (λ (k : Asking). k.decides) (same t.helping.account)) in
    let zero : 0 ≡ round_steps b.processes * decides_made t.helping.account t.start w = omega (arith, ap (λ k. round_steps b.processes * k) none) in
    subst (λ k. LeavesTotals b t.start w t.was c.turn-looked.new.totals k c.turns-self-inside.result) zero
    (LeavesTotals-HasLooked b t.start w t.was c.turn-looked.new.totals cut (looked c) c.turns-self-inside.result
    (omega (arith, c.self.invariant.kept.one_part)) (omega (arith, few, c.turns-self-inside.ensures)))

pub returns-in-Some-clause-stepped : goal.returns-in-Some-clause-stepped
returns-in-Some-clause-stepped c =
    let by = (goal.at.returns-in-Some-clause-stepped c).After-answer_in in
    let known = (goal.at.After-answer_in by).After-known in
    let at = (goal.at.After-known known).After-turn-looked in
    let start = (goal.at.After-turn-looked at).After-self in
    let b : BookTerms = c.args.board.now.book in
    let t : TurningTerms = the_view c.self.inside in
    let w : Knowledge = c.turn-looked.new.seat.knows in
    let now : TotalSums = c.turn-looked.new.totals in
    let cut : List ℕ = c.in_ok-cut.cut in
    let h : HelpingTerms = c.args.helping.now in
    let r = c.answer_in.result in
    let help : IsHelpOf b t.start w h (Settled r) =
    IsHelpOf-found b t.start w t.was now cut h (has_account start) (looked known) (waits start) c.in-Some.round c.in-Some.decision r
    c.known.ensures.seat.agrees (found by) (record { reply = c.answer_in.ensures.reply; at = c.answer_in.ensures.at }) in
    subst (λ (k : TurnStage). TakesHelpStep b c.args.overview.now.seen c.args.self.now
    (record t { stage = k; looked = c.turns-self-inside.result; mark = c.of.result.value.knows; totals = c.of-2.result.value }) c.args.seat.now c.turn-looked.new.seat
    now (Some (Settled r))) (sym c.become_next.ensures)
    (stepped at c.turns-self-inside.result c.turns-self-inside.ensures c.of.result.value c.of.ensures c.of-2.result.value c.of-2.ensures Found (Some (Settled r)) refl
    (omega arith) (λ some. refl, λ none. refl)
    (subst (λ (k : HelpingTerms). IsHelpOf b t.start w k (Settled r)) (sym (helping start)) help)
    (λ more. absurd (cc more))
    (subst (λ (k : HelpingTerms). LeavesSeat t.start w k.account) (sym (helping start))
    (LeavesSeat-HasLoaded b t.start w h.account (omega (arith, c.self.invariant.kept.one_part)) (looked known).loads (waits start).free))
    (has_counted known) (leaves_found known) (c.turn-looked.new.self.stage, c.turn-looked.ensures.follows, c.in_ok-cut.ensures.ends.0 refl))

pub start-deciding-requires-clause-totals : goal.start-deciding-requires-clause-totals
start-deciding-requires-clause-totals c = has_counted (goal.at.start-deciding-requires-clause-totals c).After-known

pub start-deciding-requires-clause-helping : goal.start-deciding-requires-clause-helping
start-deciding-requires-clause-helping c =
    let start = (goal.at.start-deciding-requires-clause-helping c).After-self in
    let done = looked (goal.at.start-deciding-requires-clause-helping c).After-known in
    IsHelpingAt-turn c.args.board.now.book c.self.inside.start.value.knows c.turn-looked.new.seat.knows c.args.helping.now c.in_ok-cut.cut
    (has_account start) done.snapshot done.loads (waits start)

pub start-deciding-requires-clause-unsettled : goal.start-deciding-requires-clause-unsettled
start-deciding-requires-clause-unsettled c =
    let at = (goal.at.start-deciding-requires-clause-unsettled c).After-known in
    let h : HelpingTerms = c.args.helping.now in
    let seen = c.turn-looked.new.seat.knows.seen in
    subst (λ f. is_settled h.account h.own.slot h.own.number (prefix_of f seen) ≡ false) (looked at).upto
    (c.in_default-settled.ensures.cut c.args.board.now.book seen (counts_slot at)
    (waits (goal.at.start-deciding-requires-clause-unsettled c).After-self).room (counts_cut at))

-- a round at the cut of the look comes next
pub invariant_of-self-2 : goal.invariant_of-self-2
invariant_of-self-2 c =
    let started = (goal.at.invariant_of-self-2 c).After-start-deciding in
    let known = (goal.at.After-start-deciding started).After-known in
    let at = (goal.at.After-known known).After-turn-looked in
    let start = (goal.at.After-turn-looked at).After-self in
    let b : BookTerms = c.args.board.now.book in
    let t : TurningTerms = the_view c.self.inside in
    let w : Knowledge = c.turn-looked.new.seat.knows in
    let now : TotalSums = c.turn-looked.new.totals in
    let cut : List ℕ = c.in_ok-cut.cut in
    let turns : ℕ = c.turn-looked.new.self.turns in
    let kept = c.self.invariant in
    let done : HasLooked t.start.book t.start w t.was now cut =
    subst (λ (k : BookTerms). HasLooked k t.start w t.was now cut) (sym (book start)) (looked known) in
    let within : IsWithin t.start.book.processes t.was (sum cut) turns =
    subst (λ (k : BookTerms). IsWithin k.processes t.was (sum cut) turns) (sym (book start))
    (subst (λ (s : TotalSums). IsWithin b.processes s (sum cut) turns) (looks at).was_is c.in_ok-cut.ensures.within) in
    let published = published-HasLoaded t.start.book t.start w (omega (arith, kept.kept.one_part)) done.loads in
    let same : HasSameAsking t.start w = HasSameAsking-HasLoaded t.start.book t.start w (omega (arith, kept.kept.one_part)) done.loads in
    let most = sum-HasLooked-le t.start.book t.start w t.was now cut done in
    let next : TurnStage = Decide (starting_deciding w now t.helping cut) in
    let here : IsTurningSo (record t { stage = next; looked = turns; mark = w; totals = now }) = record {
      kept = kept.kept;
      book = c.turn-looked.ensures.board.book ∙ sym (book start);
      helping = kept.helping;
      stage_so = λ left. record {
        helping_is = refl;
        mark_is = refl;
        totals_are = refl;
        looked_at = done;
        few = within;
        seen = most;
        begins = done.loads.more;
        others = omega (arith, most, published);
        unpublished = published;
        left_is = refl;
        once = omega (arith, ap (λ (k : Asking). k.decides) (same t.helping.account));
      };
    } in
    let stage : c.become_next-2.new.stage ≡ next =
    c.become_next-2.ensures
    ∙ (ap (λ (d : DecidingTerms). Decide d) c.start-deciding.ensures
    ∙ ap (λ (h : HelpingTerms). Decide (starting_deciding w now h cut)) (sym (helping start))) in
    subst (λ (k : TurnStage). IsTurningSo
    (record t { stage = k; looked = c.turns-self-inside.result; mark = c.of.result.value.knows; totals = c.of-2.result.value })) (sym stage)
    (subst (λ (n : ℕ). IsTurningSo (record t { stage = next; looked = n; mark = c.of.result.value.knows; totals = c.of-2.result.value }))
    (sym c.turns-self-inside.ensures)
    (subst (λ (s : SeatTerms). IsTurningSo (record t { stage = next; looked = turns; mark = s.knows; totals = c.of-2.result.value })) (sym c.of.ensures)
    (subst (λ (s : TotalSums). IsTurningSo (record t { stage = next; looked = turns; mark = w; totals = s })) (sym c.of-2.ensures) here)))

pub returns-clause-stepped : goal.returns-clause-stepped
returns-clause-stepped c =
    let started = (goal.at.returns-clause-stepped c).After-start-deciding in
    let known = (goal.at.After-start-deciding started).After-known in
    let at = (goal.at.After-known known).After-turn-looked in
    let b : BookTerms = c.args.board.now.book in
    let next : TurnStage = Decide c.start-deciding.result in
    let begun = ap (λ (d : DecidingTerms). d.left) c.start-deciding.ensures in
    let most = ap (λ (d : DecidingTerms). round_steps d.start.book.processes) c.start-deciding.ensures in
    let same = ap (λ (k : BookTerms). round_steps k.processes) c.turn-looked.ensures.board.book in
    subst (λ (k : TurnStage). TakesHelpStep b c.args.overview.now.seen c.args.self.now
    (record (the_view c.self.inside) { stage = k; looked = c.turns-self-inside.result; mark = c.of.result.value.knows; totals = c.of-2.result.value })
    c.args.seat.now c.turn-looked.new.seat c.turn-looked.new.totals None) (sym c.become_next-2.ensures)
    (stepped at c.turns-self-inside.result c.turns-self-inside.ensures c.of.result.value c.of.ensures c.of-2.result.value c.of-2.ensures next None
    (omega (arith, begun, most)) (omega (arith, begun, same, (looks at).left))
    (λ some. let wrong : false ≡ true = some in absurd (cc wrong), λ none. absurd (omega (arith, none, begun))) tt tt tt tt tt (
      (c.turn-looked.new.self.stage, c.turn-looked.ensures.follows, c.in_ok-cut.ensures.ends.0 refl),
      ap (λ (d : DecidingTerms). d.next) c.start-deciding.ensures,
    ))
