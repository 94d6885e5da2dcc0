use Rattle.std.proofs.Common.{◌↔◌, IfSome, Option, None, ◌≡◌, ℕ, ◌+◌, ◌-◌, ◌*◌, ◌≤◌, ◌≢◌, IsSome, Some, List, sym, ap, subst, ◌∙◌, arith}
use Rattle.at_calling.proofs.Prelude.{slots_of, BookTerms, account_of, IsPrefix, Publication, HasLoadedRows, SeatTerms, Knowledge, REQUEST_WORDS, HasAsked, CollectsRows, OpenRequest, HelpingTerms, helping_of, CollectingRowsTerms, MakesNextLoad, nothing, IsCollectingThen, IsStartStageSo, IsStartingSo, TakesStartTurn, LeavesTotals, HasSameCounts, IsStartOf, StartingTerms, asking_steps_of, start_turns_after, start_turns_in, start_turns_left, unless_ended, the_view, Collect}
use Rattle.at_calling.proofs.StartingLaws.{IsPrefix-MakesNextLoad, IsStartOf-CollectsRows, IsStartingSo-rows, LeavesTotals-CollectsRows, HasSameCounts-MakesNextLoad, start_after}
use Rattle.at_calling.proofs.StartingSteps.{TakesStartTurn-collect}
use Rattle.at_calling.proofs.starting.Starting.collect_on.Goals.{After-self, After-turn-collected}
use Rattle.at_calling.proofs.starting.Starting.collect_on.Goals as goal

-- what the seat knew is what the last turn left
known_before : (c : After-self) → c.args.seat.now.knows ≡ c.self.inside.mark.value.knows
known_before c = c.requires.mark ∙ sym (ap (λ (t : StartingTerms). t.mark) c.self.view_is)

-- its seat is the board's
book : (c : After-self) → c.args.board.now.book ≡ c.self.inside.start.value.knows.book
book c = sym c.requires.board.book ∙ (ap (λ (v : Knowledge). v.book) (known_before c) ∙ c.self.invariant.book)

-- the rows are loaded
collects : (c : After-turn-collected) → IsCollectingThen (the_view c.self.inside) c.in-Collect.collecting
collects c = subst (IsStartStageSo (the_view c.self.inside)) c.in-Collect.is c.self.invariant.stage_so

more_rows : (c : After-turn-collected) → IsPrefix c.in-Collect.collecting.mark.seen c.turn-collected.new.seat.knows.seen
more_rows c =
    let r : CollectingRowsTerms = c.in-Collect.collecting in
    subst (λ (x : CollectingRowsTerms). IsPrefix r.mark.seen x.mark.seen) c.turn-collected.ensures.after
    (IsPrefix-MakesNextLoad c.args.board.now.book r c.turn-collected.new.self c.turn-collected.ensures.load)

same_counts : (c : After-turn-collected)
    → HasSameCounts c.in-Collect.collecting.mark c.turn-collected.new.seat.knows c.in-Collect.collecting.account
same_counts c =
    let r : CollectingRowsTerms = c.in-Collect.collecting in
    subst (λ (x : CollectingRowsTerms). HasSameCounts r.mark x.mark r.account) c.turn-collected.ensures.after
    (HasSameCounts-MakesNextLoad c.args.board.now.book r c.turn-collected.new.self c.turn-collected.ensures.load)

rows_so : (c : After-turn-collected)
    → IsStartingSo (start_after (the_view c.self.inside) (Collect c.turn-collected.new.self) c.turn-collected.new.seat.knows)
rows_so c =
    let first = (goal.at.After-turn-collected c).After-self in
    let t : StartingTerms = the_view c.self.inside in
    let r : CollectingRowsTerms = c.in-Collect.collecting in
    let w : Knowledge = c.turn-collected.new.seat.knows in
    let new : CollectingRowsTerms = c.turn-collected.new.self in
    let after = c.turn-collected.ensures.after in
    let same : w.book ≡ t.start.book = c.turn-collected.ensures.board.book ∙ book first in
    let most : BookTerms → ℕ = λ b. slots_of (account_of b r.account) + REQUEST_WORDS * (slots_of (account_of b r.account) - 1) in
    let few : r.made + 1 ≤ most t.start.book =
    subst (λ (b : BookTerms). r.made + 1 ≤ most b) (book first)
    (subst (λ (x : CollectingRowsTerms). x.made ≤ most c.args.board.now.book) after c.turn-collected.ensures.most) in
    subst (λ (x : CollectingRowsTerms). IsStartingSo (start_after t (Collect x) w)) (sym after)
    (IsStartingSo-rows t c.self.invariant r (collects c) w new.slot new.next same (same_counts c) (more_rows c) few)

pub invariant_of-self : goal.invariant_of-self
invariant_of-self c =
    let at = (goal.at.invariant_of-self c).After-turn-collected in
    subst (λ (s : SeatTerms). IsStartingSo (start_after (the_view c.self.inside) (Collect c.turn-collected.new.self) s.knows)) (sym c.of.ensures) (rows_so at)

pub invariant_of-self-2 : goal.invariant_of-self-2
invariant_of-self-2 c =
    let at = (goal.at.invariant_of-self-2 c).After-turn-collected in
    subst (λ (s : SeatTerms). IsStartingSo (start_after (the_view c.self.inside) (Collect c.turn-collected.new.self) s.knows)) (sym c.of.ensures) (rows_so at)

-- the turns so far are those of the look, of asking and of the rows
few_rows : (c : After-turn-collected)
    → c.self.inside.looked + (REQUEST_WORDS + 1) + c.turn-collected.new.self.made
    ≤ c.self.inside.looked + asking_steps_of c.self.inside.start.value.knows.book (the_view c.self.inside)
few_rows c = omega (arith, (rows_so c).stage_so.left)

-- some load is left
goes : (c : After-turn-collected) → c.in-Collect.collecting.next ≢ nothing
goes c ended =
    let b : BookTerms = c.args.board.now.book in
    let t : StartingTerms = the_view c.self.inside in
    let r : CollectingRowsTerms = c.in-Collect.collecting in
    absurd (omega (
      arith,
      c.requires.left,
      ap (start_turns_left b) c.self.view_is,
      ap (start_turns_after (asking_steps_of b t)) c.in-Collect.is,
      ap (unless_ended (asking_steps_of b t - (REQUEST_WORDS + r.made))) ended,
    ))

-- what the turn leaves
turned : (c : After-turn-collected) (seen : List Publication) (mark : SeatTerms) → mark ≡ c.turn-collected.new.seat → (answer : Option HelpingTerms)
    → (IsSome answer ↔ (c.turn-collected.new.self.next ≡ nothing))
    → IfSome answer (IsStartOf c.args.board.now.book c.self.inside.start.value.knows c.turn-collected.new.seat.knows c.self.inside.account c.self.inside.targets)
    → IfSome answer (λ h. LeavesTotals c.args.board.now.book c.self.inside.start.value.knows c.turn-collected.new.seat.knows c.self.inside.was.value
    c.self.inside.totals.value (asking_steps_of c.args.board.now.book (the_view c.self.inside))
    (start_turns_in c.self.inside.looked (Collect c.turn-collected.new.self)))
    → TakesStartTurn c.args.board.now.book seen c.args.self.now (start_after (the_view c.self.inside) (Collect c.turn-collected.new.self) mark.knows)
    c.args.seat.now c.turn-collected.new.seat c.args.self.now.totals answer
turned c seen mark mark_is answer ends starts leaves =
    let b : BookTerms = c.args.board.now.book in
    let t : StartingTerms = the_view c.self.inside in
    let r : CollectingRowsTerms = c.in-Collect.collecting in
    let next : CollectingRowsTerms = c.turn-collected.new.self in
    let after : SeatTerms = c.turn-collected.new.seat in
    let told = c.turn-collected.ensures in
    subst (λ (s : StartingTerms). TakesStartTurn b seen s (start_after t (Collect next) mark.knows) c.args.seat.now after s.totals answer) c.self.view_is
    (TakesStartTurn-collect b seen t c.self.invariant (sym (book (goal.at.After-turn-collected c).After-self)) c.args.seat.now after mark.knows
    (ap (λ (m : SeatTerms). m.knows) mark_is) r next c.in-Collect.is (goes c) (ap (λ (x : CollectingRowsTerms). x.made) told.after) (same_counts c) (more_rows c)
    (rows_so c).stage_so.left answer
    ((collects c).mark_is ∙ sym (known_before (goal.at.After-turn-collected c).After-self), (next.slot, next.next, subst (MakesNextLoad b r) told.after told.load))
    ends starts leaves told.load)

pub returns-in_err-asked-clause-turned : goal.returns-in_err-asked-clause-turned
returns-in_err-asked-clause-turned c = λ seen.
    let at = (goal.at.returns-in_err-asked-clause-turned c).After-turn-collected in
    subst (TakesStartTurn c.args.board.now.book seen c.args.self.now
    (start_after (the_view c.self.inside) (Collect c.turn-collected.new.self) c.of.result.value.knows) c.args.seat.now c.turn-collected.new.seat
    c.args.self.now.totals) (sym c.from_residual.ensures)
    (turned at seen c.of.result.value c.of.ensures None c.in_err-asked.ensures.ends tt tt)

pub returns-clause-turned : goal.returns-clause-turned
returns-clause-turned c = λ seen.
    let at = (goal.at.returns-clause-turned c).After-turn-collected in
    let same = book (goal.at.After-turn-collected at).After-self in
    let t : StartingTerms = the_view c.self.inside in
    let r : CollectingRowsTerms = c.in-Collect.collecting in
    let w : Knowledge = c.turn-collected.new.seat.knows in
    let asked : List OpenRequest = c.in_ok-asked.asked in
    let told = c.in_ok-asked.ensures in
    let rows = subst (λ (k : BookTerms). CollectsRows k r.start w r.account r.own asked) same told.rows in
    let collected = subst (λ (k : BookTerms). HasLoadedRows k w r.account r.own.slot) same told.collected in
    let last = subst (λ (k : BookTerms). HasAsked k w r.account r.own) same told.own in
    let own : c.own.result ≡ r.own = c.own.ensures ∙ ap (λ (x : CollectingRowsTerms). x.own) c.turn-collected.ensures.after in
    let helping : c.of-2.result ≡ helping_of t.account r.own asked =
    c.of-2.ensures ∙ ap (λ (x : OpenRequest). helping_of t.account x asked) own in
    let starts : IsStartOf t.start.book t.start w t.account t.targets c.of-2.result =
    subst (IsStartOf t.start.book t.start w t.account t.targets) (sym helping)
    (IsStartOf-CollectsRows t c.self.invariant r (collects at) w asked rows told.candidates collected last) in
    let turns : ℕ = start_turns_in t.looked (Collect c.turn-collected.new.self) in
    let leaves : LeavesTotals t.start.book t.start w t.was t.totals (asking_steps_of t.start.book t) turns =
    LeavesTotals-CollectsRows t c.self.invariant r (collects at) w asked rows told.candidates collected last turns (asking_steps_of t.start.book t)
    (few_rows at) in
    turned at seen c.of.result.value c.of.ensures (Some c.of-2.result) told.ends
    (subst (λ (k : BookTerms). IsStartOf k t.start w t.account t.targets c.of-2.result) (sym same) starts)
    (subst (λ (k : BookTerms). LeavesTotals k t.start w t.was t.totals (asking_steps_of k t) turns) (sym same) leaves)
